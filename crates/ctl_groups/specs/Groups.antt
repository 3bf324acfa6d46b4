-- Objects in groups, one for each collection and record type that needs finalization: those whose finalization has not begun, and how many of these have joined.
use Rattle.std.specs.Prelude.{◌≡◌, ◌+◌, ◌-◌, ◌<◌, ◌≤◌, ◌^◌, ℕ, List, Option, Some, None, Bool, true, false, ◌&&◌, ◌||◌, nat_eq, nat_le, nat_lt, is_some, length, MatchOption, if◌then◌else◌}
use Rattle.std.specs.Option.{option_map_or}
use Rattle.std.specs.Ordering.{is_lt, nat_cmp, ordering_then}
use Rattle.std.specs.declared.cmp.Ordering.{Ordering}
use Rattle.std.specs.declared.ops.Bound.{Bound}
use Rattle.std.specs.declared.ops.Bound.TheVariants.{Included, Excluded}
use Rattle.std.specs.BTreeMap as tree
use Rattle.std.specs.BTreeMap.{BTreeMap}
use Rattle.std.specs.BTreeSet as sorted
use Rattle.std.specs.BTreeMap.Range.{IsFromStart, IsLeBy, IsUpToEnd}
use Rattle.ctl_program.specs.declared.types.Ty.{Ty}
use Rattle.ctl_program.specs.declared.types.Ty.TheVariants.{Record}
use Rattle.ctl_meaning.specs.World.{Origin, Declared, Allocated, Object}
use Rattle.ctl_meaning.specs.Lists.{keep}
use Rattle.ctl_meaning.specs.Objects.{is_untouched}
use Rattle.ctl_groups.specs.declared.groups.Group.{Group}
use Rattle.ctl_groups.specs.declared.groups.Groups.{Groups}
use Rattle.ctl_groups.specs.declared.groups.Start.{Start}
use Rattle.ctl_groups.specs.declared.groups.Start.TheVariants.{Behind, Collection}
use Rattle.ctl_groups.specs.declared.groups.Waiting.{Waiting}
use Rattle.ctl_groups.specs.declared.needs.Need.{Need}
use Rattle.ctl_groups.specs.Members.{passes}
use Rattle.ctl_groups.specs.Needs.{needs_finalization}

-- Groups -------------------------------------------------------------------------------------

abbrev pub is_same : Group → Group → Bool
is_same a b = nat_eq a.collection b.collection && nat_eq a.record_type b.record_type

-- the order of the groups: that of the collections, and within one that of the record types
abbrev pub precedes : Group → Group → Bool
precedes a b = nat_lt a.collection b.collection || (nat_eq a.collection b.collection && nat_lt a.record_type b.record_type)

-- a group comes from a start on
abbrev pub is_from : Start → Group → Bool
is_from (Collection c) g = nat_le c g.collection
is_from (Behind a) g = precedes a g

-- the group of an object: a declared one has none, and one that is no record, or whose record type needs no finalization
abbrev pub group_by : List Need → Origin → Ty → Option Group
group_by needs (Allocated c p) (Record t) = if needs_finalization needs t then Some (record { collection = c; record_type = t }) else None
group_by needs x ty = None

abbrev pub group_of : List Need → Object → Option Group
group_of needs o = group_by needs o.origin o.ty

abbrev pub is_in_group : List Need → Group → Object → Bool
is_in_group needs g o = option_map_or (λ h. is_same h g) (group_of needs o) false

-- an object of a group whose finalization has not begun
abbrev pub is_open : List Need → Group → Object → Bool
is_open needs g o = is_untouched o.state && is_in_group needs g o

abbrev pub open_group : List Need → Object → Option Group
open_group needs o = if is_untouched o.state then group_of needs o else None

-- and which has joined its collection, so that it is still to be finalized with it
abbrev pub is_waiting : List Need → Group → Object → Bool
is_waiting needs g o = o.joined && is_open needs g o

-- The next group -----------------------------------------------------------------------------

-- the first group from a start on, up to a collection, that has a number, and its count
abbrev pub IsNextBy : (Group → ℕ → Bool) → (Group → ℕ) → Start → ℕ → Option Waiting → Type 0
IsNextBy has count start last r = MatchOption r
    ((g : Group) (n : ℕ) → is_from start g ≡ true → g.collection ≤ last → has g n ≡ false)
    (λ w. (is_from start w.group ≡ true) × (w.group.collection ≤ last) × ((n : ℕ) × (has w.group n ≡ true)) × (w.count ≡ count w.group)
    × ((g : Group) (n : ℕ) → is_from start g ≡ true → precedes g w.group ≡ true → has g n ≡ false))

-- the first that has an object whose finalization has not begun, and how many of its objects are still to be finalized
abbrev pub IsNextGroup : List Need → Start → ℕ → Option Waiting → List Object → Type 0
IsNextGroup needs start last r os = IsNextBy (λ g n. passes (is_open needs g) n os) (λ g. length (keep (is_waiting needs g) os)) start last r

-- an object that is allocated
abbrev pub is_allocated : Origin → Bool
is_allocated (Declared m) = false
is_allocated (Allocated c p) = true

-- How groups are kept ------------------------------------------------------------------------

abbrev pub group_cmp : Group → Group → Ordering
group_cmp a b = ordering_then (nat_cmp a.collection b.collection) (nat_cmp a.record_type b.record_type)

abbrev pub key_cmp : Group × ℕ → Group × ℕ → Ordering
key_cmp x y = ordering_then (group_cmp x.0 y.0) (nat_cmp x.1 y.1)

-- an object's number stands in a group
abbrev pub is_in : Group → ℕ → Groups → Bool
is_in g n s = sorted.contains key_cmp s.untouched (g, n)

abbrev pub count_of : Group → BTreeMap Group ℕ → Option ℕ
count_of g m = tree.get group_cmp m g

-- how many are counted
abbrev pub counted : Group → BTreeMap Group ℕ → ℕ
counted g m = option_map_or (λ k. k) (count_of g m) 0

abbrev pub count : Group → Groups → ℕ
count g s = counted g s.joined

-- each group that has a number has a count
abbrev pub AreEntered : Groups → Type 0
AreEntered s = (g : Group) (n : ℕ) → is_in g n s ≡ true → is_some (count_of g s.joined) ≡ true

-- no number is too great
abbrev pub AreNumbers : Groups → Type 0
AreNumbers s = (g : Group) (n : ℕ) → is_in g n s ≡ true → n < 2 ^ 64

-- the same count for each group, and a count for each that had one
abbrev pub KeepsCounts : BTreeMap Group ℕ → BTreeMap Group ℕ → Type 0
KeepsCounts m k = ((g : Group) → counted g k ≡ counted g m) × ((g : Group) → is_some (count_of g m) ≡ true → is_some (count_of g k) ≡ true)

-- this count for one group, and for each other group what it had
abbrev pub IsCounted : Group → ℕ → BTreeMap Group ℕ → BTreeMap Group ℕ → Type 0
IsCounted h n m k = (g : Group) → count_of g k ≡ (if is_same h g then Some n else count_of g m)

abbrev pub IsSame : Groups → Groups → Type 0
IsSame s t = ((g : Group) (n : ℕ) → is_in g n t ≡ is_in g n s) × KeepsCounts s.joined t.joined

-- the objects of these groups, and no others
pub record AreGrouped (needs : List Need) (os : List Object) (s : Groups) : Type 0 where
  pub members : (g : Group) (n : ℕ) → is_in g n s ≡ passes (is_open needs g) n os
  pub entered : AreEntered s
  pub counts : (g : Group) → count g s ≡ length (keep (is_waiting needs g) os)

-- One object changes -------------------------------------------------------------------------

abbrev pub one : Bool → ℕ
one b = if b then 1 else 0

-- an object, where there is one, passes a test
abbrev pub test : (Object → Bool) → Option Object → Bool
test p o = option_map_or p o false

-- the groups see no difference
abbrev pub AreAlike : List Need → Option Object → Option Object → Type 0
AreAlike needs x y = (g : Group) → (test (is_open needs g) x ≡ test (is_open needs g) y) × (test (is_waiting needs g) x ≡ test (is_waiting needs g) y)

-- the object of a number is one that the groups see so, among those that they have
pub record Has (needs : List Need) (n : ℕ) (x : Object) (s : Groups) : Type 0 where
  pub there : (g : Group) → is_in g n s ≡ is_open needs g x
  pub entered : AreEntered s
  pub least : (g : Group) → one (is_waiting needs g x) ≤ count g s
  -- where it is the only one of its group, no other is counted
  pub only : (g : Group) → ((k : ℕ) → nat_eq n k ≡ false → is_in g k s ≡ false) → count g s ≡ one (is_waiting needs g x)
  pub few : (g : Group) → count g s + 1 < 2 ^ 64

-- one object becomes another one, where there was one, and where there is one then
pub record Moves (needs : List Need) (n : ℕ) (x y : Option Object) (s t : Groups) : Type 0 where
  pub members : (g : Group) (k : ℕ) → is_in g k t ≡ (if nat_eq n k then test (is_open needs g) y else is_in g k s)
  pub entered : AreEntered t
  pub counts : (g : Group) → count g t + one (test (is_waiting needs g) x) ≡ count g s + one (test (is_waiting needs g) y)

-- What is found ------------------------------------------------------------------------------

-- the first number with its group, from a start on
abbrev pub IsFirstMember : Bound (Group × ℕ) → Option (Group × ℕ) → Groups → Type 0
IsFirstMember start r s = MatchOption r ((g : Group) (k : ℕ) → IsFromStart key_cmp start (g, k) → is_in g k s ≡ false)
    (λ f. IsFromStart key_cmp start f × (is_in f.0 f.1 s ≡ true) × ((g : Group) (k : ℕ) → IsFromStart key_cmp start (g, k) → is_in g k s ≡ true → IsLeBy key_cmp f (g, k)))

-- the last one, up to an end
abbrev pub IsLastMember : Bound (Group × ℕ) → Option (Group × ℕ) → Groups → Type 0
IsLastMember end r s = MatchOption r ((g : Group) (k : ℕ) → IsUpToEnd key_cmp end (g, k) → is_in g k s ≡ false)
    (λ f. IsUpToEnd key_cmp end f × (is_in f.0 f.1 s ≡ true) × ((g : Group) (k : ℕ) → IsUpToEnd key_cmp end (g, k) → is_in g k s ≡ true → is_lt (key_cmp f (g, k)) ≡ false))

-- the first key of the groups from a start on
abbrev pub start_of : Start → Bound (Group × ℕ)
start_of (Collection c) = Included (record { collection = c; record_type = 0 }, 0)
start_of (Behind g) = Excluded (g, 2 ^ 64 - 1)
