-- How the allocated objects are kept: each is listed for its collection, and stands in its group, where its record type needs finalization, until this begins.
use Rattle.std.specs.Prelude.{◌≡◌, ◌^◌, List, length}
use Rattle.ctl_meaning.specs.World.{Object}
use Rattle.ctl_groups.specs.declared.groups.Groups.{Groups}
use Rattle.ctl_groups.specs.declared.needs.Need.{Need}
use Rattle.ctl_groups.specs.Groups.{AreGrouped}
use Rattle.ctl_storage.specs.Order.{AreBelow}
use Rattle.owned_numbers.specs.Owned.{Owned}
use Rattle.ctl_objects.specs.Sets.{AreListed}

pub record AreFiled (needs : List Need) (os : List Object) (sets : Owned) (groups : Groups) : Type 0 where
  pub listed : AreListed os sets
  pub many : sets.size ≡ length os
  pub numbers : AreBelow (2 ^ 64) os
  pub grouped : AreGrouped needs os groups
