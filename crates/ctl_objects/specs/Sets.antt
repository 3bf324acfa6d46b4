-- Which objects are listed for each collection.
use Rattle.std.specs.Prelude.{◌≡◌, ℕ, List, Bool, false}
use Rattle.owned_numbers.specs.Owned.{Owned, owns}
use Rattle.ctl_meaning.specs.World.{Origin, Declared, Allocated, Object}
use Rattle.ctl_meaning.specs.Lists as lists
use Rattle.ctl_storage.specs.Allocated.{is_member}
use Rattle.ctl_storage.specs.Order.{Rise}
use Rattle.ctl_objects.specs.Order.{AreAllocated}

-- allocated objects in the order of their numbers, each of them listed for its collection, and no others
pub record AreListed (os : List Object) (sets : Owned) : Type 0 where
  pub rise : Rise 0 os
  pub allocated : AreAllocated os
  pub members : (set n : ℕ) → owns set n sets ≡ is_member set n os

-- an origin in one of these collections
abbrev pub is_of_sets : List ℕ → Origin → Bool
is_of_sets sets (Declared m) = false
is_of_sets sets (Allocated set p) = lists.contains set sets
