-- The members of collections, and those of them that are still to be finalized (7.6.1, 13.11.2).
use Rattle.std.specs.Prelude.{ℕ, List, length, Bool, false, ◌&&◌, map}
use Rattle.ctl_meaning.specs.World.{Origin, Declared, Allocated, Object, Member, World}
use Rattle.ctl_meaning.specs.Lists.{keep, contains}
use Rattle.ctl_meaning.specs.Objects.{is_untouched, lies_in_subpool}
use Rattle.ctl_meaning.specs.Types.{Tables, has_controlled}

-- of which members a choice is made: of these collections, or of those that lie in a subpool
pub data Group : Type 0 where
  OfSets : (collections : List ℕ) → Group
  OfSubpool : (subpool : ℕ) → Group

unfoldable pub is_of_group : Group → Origin → Bool
is_of_group (OfSets sets) (Declared m) = false
is_of_group (OfSets sets) (Allocated set place) = contains set sets
is_of_group (OfSubpool s) x = lies_in_subpool s x

unfoldable pub member_of : Object → Member
member_of o = record { number = o.number; ty = o.ty }

-- a member that has a controlled part, and whose finalization has not begun
unfoldable pub is_due : Tables → Object → Bool
is_due t o = o.joined && (is_untouched o.state && has_controlled t o.ty)

unfoldable pub is_candidate : Tables → Group → Object → Bool
is_candidate t g o = is_due t o && is_of_group g o.origin

-- the candidates of a choice, in the order of their numbers: the objects stand in that order
unfoldable pub candidates_of : Tables → Group → World → List Member
candidates_of t g w = map member_of (keep (is_candidate t g) w.objects)

-- how many members are still to be finalized
unfoldable pub count_due : Tables → World → ℕ
count_due t w = length (keep (is_due t) w.objects)

-- everything here, opened at once
unfoldable pub opened_members : Unit {0}
unfolding is_of_group member_of is_due is_candidate candidates_of count_due
opened_members = tt
