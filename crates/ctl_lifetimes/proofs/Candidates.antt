-- The members of collections that are still to be finalized are counted, and one of them is chosen.
use Rattle.std.proofs.Common.{◌≡◌, ◌≢◌, ◌⊎◌, inl, inr, ◌∙◌, ℕ, zero, suc, ◌+◌, ◌-◌, ◌<◌, ◌≤◌, ◌^◌, List, [], ◌∷◌, ◌++◌, Option, Some, None, Bool, true, false, cond, refl, sym, ap, arith, subst, length}
use Rattle.std.specs.Prelude.{nat_eq, nat_le, nat_lt, not, ◌&&◌, ◌||◌, IfSome, slice_get}
use Rattle.std.specs.Option.{option_map, option_map_or}
use Rattle.std.proofs.lemmas.Bool.Decides.{nat_tests}
use Rattle.std.proofs.lemmas.Option.{slice_get-map}
use Rattle.ctl_tree.specs.declared.request.Order.{Order}
use Rattle.ctl_tree.specs.declared.request.Order.TheVariants as OrderOf
use Rattle.ctl_program.specs.declared.types.Ty.{Ty}
use Rattle.ctl_program.specs.declared.types.Ty.TheVariants as TyOf
use Rattle.ctl_program.specs.declared.types.Ty.TheVariants.{Record}
use Rattle.ctl_meaning.specs.Lists.{contains, keep, opened_lists, pull_item}
use Rattle.ctl_meaning.specs.Members.{OfSets, is_of_group, opened_members}
use Rattle.ctl_meaning.specs.Objects.{is_untouched, object_in}
use Rattle.ctl_meaning.specs.World.{Allocated, Declared, Object, Origin, State}
use Rattle.ctl_groups.specs.declared.groups.Group.{Group}
use Rattle.ctl_groups.specs.declared.groups.Start.{Start}
use Rattle.ctl_groups.specs.declared.groups.Start.TheVariants.{Behind, Collection}
use Rattle.ctl_groups.specs.declared.groups.Waiting.{Waiting}
use Rattle.ctl_groups.specs.declared.needs.Need.{Need}
use Rattle.ctl_groups.specs.Groups.{IsNextGroup, group_by, group_of, is_allocated, is_from, is_open, is_same, is_waiting, one, precedes, test}
use Rattle.ctl_groups.specs.Members.{IsGreatest, IsLeast, is_between, passes}
use Rattle.ctl_groups.specs.Needs.{is_finalization, needs_finalization}
use Rattle.ctl_storage.specs.Order.{Rise}
use Rattle.ctl_objects.specs.Stock.{Stock}
use Rattle.ctl_groups.proofs.Counted.{each_there, fewer_left, greatest_pulled, kept_same, least_pulled, no_fewer, none_passes, passes_so, passing, some_kept, sums}
use Rattle.ctl_groups.proofs.Grouped.{later, neither, never, not_itself, same_is, same_self}
use Rattle.ctl_storage.proofs.Rising.{number_found, rise_lower}
use Rattle.ctl_objects.proofs.Waits.{greatest_alike, least_alike}
use Rattle.ctl_code.specs.declared.code.Code.{Code}
use Rattle.ctl_code.specs.declared.code.Layout.{Layout}
use Rattle.ctl_code.specs.declared.code.Parts.{Parts}
use Rattle.ctl_code.specs.declared.code.Parts.TheVariants as PartsOf
use Rattle.ctl_code.specs.Table.{has_part, has_part_in, is_candidate, numbers_to, parts_in, parts_of}
use Rattle.ctl_lifetimes.specs.declared.emptying.Candidates.{Candidates}
use Rattle.ctl_lifetimes.specs.declared.emptying.Member.{Member}
use Rattle.ctl_lifetimes.specs.Emptying.{AreCounted, IsEnd, IsMember, IsTaken, IsWith, due, is_ahead, is_counted, is_due, is_passed, taken_with}
use Rattle.ctl_frames.specs.Filling.{pick_among}
use Rattle.ctl_frames.specs.Needs.{need_of, needs_of}
use Rattle.ctl_frames.specs.Owned.{AreFromTo}

-- Numbers of collections -----------------------------------------------------------------------------------

contains_none : (n : ℕ) → contains n [] ≡ false
unfolding opened_lists
contains_none n = refl

contains_more : (n x : ℕ) (xs : List ℕ) → contains n (x ∷ xs) ≡ (nat_eq n x || contains n xs)
unfolding opened_lists
contains_more n x xs = refl

contains_last : (n x : ℕ) (xs : List ℕ) → contains n (xs ++ x ∷ []) ≡ (contains n xs || nat_eq n x)
contains_last n x [] = contains_more n x [] ∙ (ap (λ b. nat_eq n x || b) (contains_none n) ∙ (by (nat_eq n x) ∙ sym (ap (λ b. b || nat_eq n x) (contains_none n))))
  where
    by : (b : Bool) → (b || false) ≡ b
    by true = refl
    by false = refl
contains_last n x (y ∷ ys) =
    contains_more n y (ys ++ x ∷ [])
    ∙ (ap (λ b. nat_eq n y || b) (contains_last n x ys) ∙ (by (nat_eq n y) ∙ sym (ap (λ b. b || nat_eq n x) (contains_more n y ys))))
  where
    by : (b : Bool) → (b || (contains n ys || nat_eq n x)) ≡ ((b || contains n ys) || nat_eq n x)
    by true = refl
    by false = refl

-- a number among so many that end with one
numbers_hold : (c last count : ℕ) → contains c (numbers_to last count) ≡ true → (c ≤ last) × (last + 1 ≤ c + count)
numbers_hold c last zero is = let none = contains_none c in absurd (cc)
numbers_hold c last (suc n) is = by (contains c (numbers_to (last - 1) n)) refl (numbers_hold c (last - 1) n)
  where
    either : (contains c (numbers_to (last - 1) n) || nat_eq c last) ≡ true
    either = sym (contains_last c last (numbers_to (last - 1) n)) ∙ is

    by : (b : Bool) → contains c (numbers_to (last - 1) n) ≡ b → (contains c (numbers_to (last - 1) n) ≡ true → (c ≤ last - 1) × ((last - 1) + 1 ≤ c + n)) → (c ≤ last) × (last + 1 ≤ c + suc n)
    by true there ih = let low = (ih there).0 in let high = (ih there).1 in (omega (arith, low, high), omega (arith, low, high))
    by false there ih =
        let same : nat_eq c last ≡ true = sym (ap (λ b. b || nat_eq c last) there) ∙ either in
        let is_last : c ≡ last = grind (arith, nat_tests, same) in
        (omega (arith, is_last), omega (arith, is_last))

are_numbers : (c last count : ℕ) → c ≤ last → last + 1 ≤ c + count → contains c (numbers_to last count) ≡ true
are_numbers c last zero low high = absurd (omega (arith, low, high))
are_numbers c last (suc n) low high = contains_last c last (numbers_to (last - 1) n) ∙ by (nat_eq c last) refl (are_numbers c (last - 1) n)
  where
    right : (b : Bool) → (b || true) ≡ true
    right true = refl
    right false = refl

    by : (b : Bool) → nat_eq c last ≡ b → (c ≤ last - 1 → (last - 1) + 1 ≤ c + n → contains c (numbers_to (last - 1) n) ≡ true) → (contains c (numbers_to (last - 1) n) || nat_eq c last) ≡ true
    by true same ih = ap (λ b. contains c (numbers_to (last - 1) n) || b) same ∙ right (contains c (numbers_to (last - 1) n))
    by false same ih =
        let less : c < last = grind (arith, nat_tests, same, low) in
        ap (λ b. b || nat_eq c last) (ih (omega (arith, less)) (omega (arith, less, high)))

-- so many numbers that end with one are those from the first of them to it
pub numbers_from : (first last count : ℕ) → first ≡ (last + 1) - count → AreFromTo first last (numbers_to last count)
numbers_from first last count is c = by (contains c (numbers_to last count)) refl (nat_le first c) refl (nat_le c last) refl
  where
    by : (b : Bool) → contains c (numbers_to last count) ≡ b → (low : Bool) → nat_le first c ≡ low → (high : Bool) → nat_le c last ≡ high → contains c (numbers_to last count) ≡ (nat_le first c && nat_le c last)
    by true there low a high b =
        let h = numbers_hold c last count there in
        let more = h.1 in
        let less = h.0 in
        let from : first ≤ c = omega (arith, more, is) in
        let one : nat_le first c ≡ true = grind (arith, nat_tests, from) in
        let two : nat_le c last ≡ true = grind (arith, nat_tests, less) in
        there ∙ sym (ap (λ z. z && nat_le c last) one ∙ two)
    by false there false a high b = there ∙ sym (ap (λ z. z && nat_le c last) a)
    by false there true a false b = there ∙ sym (ap (λ z. z && nat_le c last) a ∙ b)
    by false there true a true b =
        let from : first ≤ c = grind (arith, nat_tests, a) in
        let to : c ≤ last = grind (arith, nat_tests, b) in
        let yes = are_numbers c last count to (omega (arith, from, is)) in
        absurd (cc)

-- none are those from a number to one below it
pub numbers_none : (first last : ℕ) → last < first → AreFromTo first last []
numbers_none first last less c = contains_none c ∙ sym (by (nat_le first c) refl)
  where
    by : (b : Bool) → nat_le first c ≡ b → (nat_le first c && nat_le c last) ≡ false
    by false is = ap (λ z. z && nat_le c last) is
    by true is =
        let from : first ≤ c = grind (arith, nat_tests, is) in
        let high : nat_le c last ≡ false = grind (arith, nat_tests, from, less) in
        ap (λ z. z && nat_le c last) is ∙ high

-- An object is allocated for one of these collections if its collection lies between the two ----------------

group_is : (first last : ℕ) (sets : List ℕ) (x : Origin) → AreFromTo first last sets → is_of_group (OfSets sets) x ≡ is_between first last x
unfolding opened_members
group_is first last sets (Declared m) range = refl
group_is first last sets (Allocated c p) range = range c

second_holds : (a b : Bool) → (a && b) ≡ true → b ≡ true
second_holds true b h = h
second_holds false b h = absurd (cc)

-- Tests ----------------------------------------------------------------------------------------------------

right_false : (a : Bool) → (a && false) ≡ false
right_false true = refl
right_false false = refl

right_true : (a : Bool) → (a && true) ≡ a
right_true true = refl
right_true false = refl

-- an object with no controlled part, or with no group
undue : (j u b : Bool) → ((j && (u && false)) && b) ≡ false
undue true true b = refl
undue true false b = refl
undue false u b = refl

outside : (j u : Bool) → (j && (u && false)) ≡ false
outside true true = refl
outside true false = refl
outside false u = refl

-- What the record types need -------------------------------------------------------------------------------

-- a record type needs finalization just if some part of its objects is controlled
abbrev pub AreKnown : Code → List Need → Type 0
AreKnown code needs = (t : ℕ) → needs_finalization needs t ≡ has_part (parts_of code t)

pub needs_known : (code : Code) (needs : List Need) → needs ≡ needs_of code → AreKnown code needs
needs_known code needs is t =
    ap (λ (l : List Need). needs_finalization l t) is
    ∙ (ap (λ (x : Option Need). option_map_or is_finalization x false) (slice_get-map (λ (x : Layout). need_of x.parts) code.layouts.items t) ∙ by (slice_get code.layouts.items t))
  where
    known : (p : Parts) → is_finalization (need_of p) ≡ has_part p
    known PartsOf.Plain = refl
    known PartsOf.Controlled = refl
    known PartsOf.Within = refl

    by : (x : Option Layout) → option_map_or is_finalization (option_map (λ (y : Layout). need_of y.parts) x) false ≡ has_part (parts_in x)
    by None = refl
    by (Some x) = known x.parts

-- The groups come one after another ------------------------------------------------------------------------

from_later : (start : Start) (g h : Group) → is_from start g ≡ true → precedes g h ≡ true → is_from start h ≡ true
from_later (Collection c) g h from before = grind (arith, nat_tests, from, before)
from_later (Behind a) g h from before = later a g h from before

abbrev counted_by : Code → List Need → ℕ → ℕ → Start → Bool → State → Origin → Ty → Bool
counted_by code needs first last start j s x ty = (j && (is_untouched s && has_part_in code ty)) && (is_between first last x && is_passed start (group_by needs x ty))

-- this is a group
abbrev is_so : Group → Option Group → Bool
is_so g r = option_map_or (λ h. is_same h g) r false

abbrev in_by : List Need → Group → Origin → Ty → Bool
in_by needs g x ty = is_so g (group_by needs x ty)

abbrev waits_by : List Need → Group → Bool → State → Origin → Ty → Bool
waits_by needs g j s x ty = j && (is_untouched s && in_by needs g x ty)

-- an object whose group this is, if it has one, is untouched in no group before this one, from the start on
abbrev NoneBetween : Start → Group → Bool → Option Group → Type 0
NoneBetween start g u r = (h : Group) → is_from start h ≡ true → precedes h g ≡ true → (u && is_so h r) ≡ false

zeros : (j u b c : Bool) → one ((j && (u && false)) && b) ≡ one ((j && (u && false)) && c) + one (j && (u && false))
zeros j u b c =
    let p : one ((j && (u && false)) && b) ≡ 0 = ap one (undue j u b) in
    let q : one ((j && (u && false)) && c) ≡ 0 = ap one (undue j u c) in
    let r : one (j && (u && false)) ≡ 0 = ap one (outside j u) in
    omega (arith, p, q, r)

-- one object that has a group: it is counted before, or with the group (b: it is between; f: its group comes from the start on; q: it comes
-- behind the group; same: it is the group)
one_object : (j u b f q same : Bool) → (q ≡ true → f ≡ true) → (same ≡ true → (f ≡ true) × (q ≡ false) × (b ≡ true)) → (same ≡ false → q ≡ false → f ≡ true → u ≡ false)
    → one ((j && (u && true)) && (b && not q)) ≡ one ((j && (u && true)) && (b && not f)) + one (j && (u && same))
one_object j u b false q true behind own between = absurd (let it = (own refl).0 in cc)
one_object j u b true true true behind own between = absurd (let it = (own refl).1 in cc)
one_object j u b true false true behind own between =
    subst (λ (c : Bool). one ((j && (u && true)) && (c && true)) ≡ one ((j && (u && true)) && (c && false)) + one (j && (u && true))) (sym (own refl).2) (by j u)
  where
    by : (j u : Bool) → one ((j && (u && true)) && true) ≡ one ((j && (u && true)) && false) + one (j && (u && true))
    by true true = refl
    by true false = refl
    by false u = refl
one_object j u b true true false behind own between = let none : one (j && (u && false)) ≡ 0 = ap one (outside j u) in omega (arith, none)
one_object j u b false true false behind own between = absurd (let it = behind refl in cc)
one_object j u b false false false behind own between = let none : one (j && (u && false)) ≡ 0 = ap one (outside j u) in omega (arith, none)
one_object j u b true false false behind own between =
    let none : one (j && (u && false)) ≡ 0 = ap one (outside j u) in
    let p : one ((j && (u && true)) && (b && true)) ≡ 0 = ap (λ c. one ((j && (c && true)) && (b && true))) (between refl refl refl) ∙ ap one (begun j (b && true)) in
    let q : one ((j && (u && true)) && (b && false)) ≡ 0 = ap (λ c. one ((j && (c && true)) && (b && false))) (between refl refl refl) ∙ ap one (begun j (b && false)) in
    omega (arith, none, p, q)
  where
    begun : (j b : Bool) → ((j && false) && b) ≡ false
    begun true b = refl
    begun false b = refl

not_untouched : (g : Group) (u : Bool) → (u && is_same g g) ≡ false → u ≡ false
not_untouched g false is = refl
not_untouched g true is = absurd (never (is_same g g) (same_self g) is)

-- the group of an object of a record type, if that needs finalization
abbrev group_if : Bool → Group → Option Group
group_if needed g = cond needed (Some g) None

one_record : (start : Start) (g own : Group) (needed j u b : Bool) → is_from start g ≡ true → (own ≡ g → b ≡ true) → NoneBetween start g u (group_if needed own)
    → one ((j && (u && needed)) && (b && is_passed (Behind g) (group_if needed own))) ≡ one ((j && (u && needed)) && (b && is_passed start (group_if needed own))) + one (j && (u && is_so g (group_if needed own)))
one_record start g own false j u b from within none = zeros j u (b && false) (b && false)
one_record start g own true j u b from within none = one_object j u b (is_from start own) (precedes g own) (is_same own g) (from_later start g own from) here between
  where
    here : is_same own g ≡ true → (is_from start own ≡ true) × (precedes g own ≡ false) × (b ≡ true)
    here same = let is : own ≡ g = same_is own g same in (ap (λ (h : Group). is_from start h) is ∙ from, ap (λ (h : Group). precedes g h) is ∙ not_itself g, within is)

    between : is_same own g ≡ false → precedes g own ≡ false → is_from start own ≡ true → u ≡ false
    between differs not_behind from_start = not_untouched own u (none own from_start (before (precedes own g) refl))
      where
        before : (b : Bool) → precedes own g ≡ b → precedes own g ≡ true
        before true is = is
        before false is = absurd (never (is_same own g) (neither own g is not_behind) differs)

one_more : (code : Code) (needs : List Need) (first last : ℕ) (start : Start) (g : Group) (j : Bool) (s : State) (x : Origin) (ty : Ty) → AreKnown code needs → is_from start g ≡ true → first ≤ g.collection → g.collection ≤ last
    → NoneBetween start g (is_untouched s) (group_by needs x ty)
    → one (counted_by code needs first last (Behind g) j s x ty) ≡ one (counted_by code needs first last start j s x ty) + one (waits_by needs g j s x ty)
one_more code needs first last start g j s (Declared m) ty known from low high none =
    let a = is_untouched s in
    let p : one (counted_by code needs first last (Behind g) j s (Declared m) ty) ≡ 0 = ap one (right_false (j && (a && has_part_in code ty))) in
    let q : one (counted_by code needs first last start j s (Declared m) ty) ≡ 0 = ap one (right_false (j && (a && has_part_in code ty))) in
    let r : one (waits_by needs g j s (Declared m) ty) ≡ 0 = ap one (outside j a) in
    omega (arith, p, q, r)
one_more code needs first last start g j s (Allocated c p) TyOf.Integer known from low high none = zeros j (is_untouched s) (is_between first last (Allocated c p) && false) (is_between first last (Allocated c p) && false)
one_more code needs first last start g j s (Allocated c p) TyOf.Count known from low high none = zeros j (is_untouched s) (is_between first last (Allocated c p) && false) (is_between first last (Allocated c p) && false)
one_more code needs first last start g j s (Allocated c p) TyOf.Boolean known from low high none = zeros j (is_untouched s) (is_between first last (Allocated c p) && false) (is_between first last (Allocated c p) && false)
one_more code needs first last start g j s (Allocated c p) TyOf.Address known from low high none = zeros j (is_untouched s) (is_between first last (Allocated c p) && false) (is_between first last (Allocated c p) && false)
one_more code needs first last start g j s (Allocated c p) TyOf.Handle known from low high none = zeros j (is_untouched s) (is_between first last (Allocated c p) && false) (is_between first last (Allocated c p) && false)
one_more code needs first last start g j s (Allocated c p) (TyOf.Access t) known from low high none = zeros j (is_untouched s) (is_between first last (Allocated c p) && false) (is_between first last (Allocated c p) && false)
one_more code needs first last start g j s (Allocated c p) (Record t) known from low high none =
    subst (λ part. one ((j && (is_untouched s && part)) && (is_between first last (Allocated c p) && is_passed (Behind g) (group_if needed own))) ≡ one ((j && (is_untouched s && part)) && (is_between first last (Allocated c p) && is_passed start (group_if needed own))) + one (waits_by needs g j s (Allocated c p) (Record t)))
    (known t) (one_record start g own needed j (is_untouched s) (is_between first last (Allocated c p)) from (λ is. within (ap (λ (h : Group). h.collection) is)) none)
  where
    own : Group
    own = record { collection = c; record_type = t }

    needed : Bool
    needed = needs_finalization needs t

    within : c ≡ g.collection → (nat_le first c && nat_le c last) ≡ true
    within set = grind (arith, nat_tests, set, low, high)

-- each object is counted before, or with the group
each_object : (code : Code) (first last : ℕ) (start : Start) (w : Waiting) (s : Stock) → AreKnown code s.needs → ((g : Group) → is_from start g ≡ true → first ≤ g.collection) → IsNextGroup s.needs start last (Some w) s.objects → (o : Object) → object_in o.number s.objects ≡ Some o
    → one (is_counted code s.needs first last (Behind w.group) o) ≡ one (is_counted code s.needs first last start o) + one (is_waiting s.needs w.group o)
each_object code first last start w s known within next o there =
    one_more code s.needs first last start w.group o.joined o.state o.origin o.ty known next.0 (within w.group next.0) next.1 (λ h from before. sym (ap (test (is_open s.needs h)) there) ∙ next.4 h o.number from before)

-- The first or the last ------------------------------------------------------------------------------------

left_one : (P R : Type 0) → (R → ⊥) → P ⊎ R → P
left_one P R none (inl p) = p
left_one P R none (inr r) = absurd (none r)

right_one : (P R : Type 0) → (P → ⊥) → P ⊎ R → R
right_one P R none (inl p) = absurd (none p)
right_one P R none (inr r) = r

-- of two numbers an order takes one
end_with : (order : Order) (P R Q : ℕ → Type 0) (chosen : Option Member) (r : Option ℕ) (g : Group) → IsEnd order P (option_map (λ m. m.number) chosen) → IsEnd order R r → ((n : ℕ) → P n → Q n) → ((n : ℕ) → R n → Q n) → ((n : ℕ) → Q n → P n ⊎ R n)
    → IsEnd order Q (option_map (λ m. m.number) (taken_with order chosen g r))
end_with OrderOf.Newest P R Q chosen None g h l p r back = greatest_alike P Q (option_map (λ m. m.number) chosen) p (λ n q. left_one (P n) (R n) (l n) (back n q)) h
end_with OrderOf.Oldest P R Q chosen None g h l p r back = least_alike P Q (option_map (λ m. m.number) chosen) p (λ n q. left_one (P n) (R n) (l n) (back n q)) h
end_with OrderOf.Newest P R Q None (Some n) g h l p r back = greatest_alike R Q (Some n) r (λ k q. right_one (P k) (R k) (h k) (back k q)) l
end_with OrderOf.Oldest P R Q None (Some n) g h l p r back = least_alike R Q (Some n) r (λ k q. right_one (P k) (R k) (h k) (back k q)) l
end_with OrderOf.Newest P R Q (Some m) (Some n) g h l p r back = by (nat_lt m.number n) refl
  where
    x : Member
    x = record { number = n; record_type = g.record_type }

    high : n ≤ m.number → (k : ℕ) → P k ⊎ R k → k ≤ m.number
    high less k (inl is) = h.1 k is
    high less k (inr is) = let most = l.1 k is in omega (arith, most, less)

    low : m.number < n → (k : ℕ) → P k ⊎ R k → k ≤ n
    low less k (inl is) = let most = h.1 k is in omega (arith, most, less)
    low less k (inr is) = l.1 k is

    by : (b : Bool) → nat_lt m.number n ≡ b → IsGreatest Q (Some ((cond b x m).number))
    by true is = (r n l.0, λ k q. low (grind (arith, nat_tests, is)) k (back k q))
    by false is = (p m.number h.0, λ k q. high (grind (arith, nat_tests, is)) k (back k q))
end_with OrderOf.Oldest P R Q (Some m) (Some n) g h l p r back = by (nat_lt n m.number) refl
  where
    x : Member
    x = record { number = n; record_type = g.record_type }

    high : m.number ≤ n → (k : ℕ) → P k ⊎ R k → m.number ≤ k
    high less k (inl is) = h.1 k is
    high less k (inr is) = let least = l.1 k is in omega (arith, least, less)

    low : n < m.number → (k : ℕ) → P k ⊎ R k → n ≤ k
    low less k (inl is) = let least = h.1 k is in omega (arith, least, less)
    low less k (inr is) = l.1 k is

    by : (b : Bool) → nat_lt n m.number ≡ b → IsLeast Q (Some ((cond b x m).number))
    by true is = (r n l.0, λ k q. low (grind (arith, nat_tests, is)) k (back k q))
    by false is = (p m.number h.0, λ k q. high (grind (arith, nat_tests, is)) k (back k q))

-- a member has the type of its object
abbrev IsTyped : List Object → Member → Type 0
IsTyped os m = (o : Object) → object_in m.number os ≡ Some o → o.ty ≡ Record m.record_type

-- The members are counted ----------------------------------------------------------------------------------

-- its type is the group's
type_in : (needs : List Need) (g : Group) (x : Origin) (ty : Ty) → in_by needs g x ty ≡ true → ty ≡ Record g.record_type
type_in needs g (Declared m) ty is = absurd (cc)
type_in needs g (Allocated c p) TyOf.Integer is = absurd (cc)
type_in needs g (Allocated c p) TyOf.Count is = absurd (cc)
type_in needs g (Allocated c p) TyOf.Boolean is = absurd (cc)
type_in needs g (Allocated c p) TyOf.Address is = absurd (cc)
type_in needs g (Allocated c p) TyOf.Handle is = absurd (cc)
type_in needs g (Allocated c p) (TyOf.Access t) is = absurd (cc)
type_in needs g (Allocated c p) (Record t) is = by (needs_finalization needs t) is
  where
    own : Group
    own = record { collection = c; record_type = t }

    by : (needed : Bool) → is_so g (group_if needed own) ≡ true → Record t ≡ Record g.record_type
    by true same = ap (λ (h : Group). Record h.record_type) (same_is own g same)
    by false none = absurd (cc)

waiting_type : (needs : List Need) (g : Group) (o : Object) → is_waiting needs g o ≡ true → o.ty ≡ Record g.record_type
waiting_type needs g o is = type_in needs g o.origin o.ty (second_holds (is_untouched o.state) (in_by needs g o.origin o.ty) (second_holds o.joined (is_open needs g o) is))

one_is : (a b c : Bool) → one a ≡ one b + one c → b ≡ true → a ≡ true
one_is true b c e is = refl
one_is false true c e is = absurd (let no = e in omega (arith, no))
one_is false false c e is = absurd (cc)

other_is : (a b c : Bool) → one a ≡ one b + one c → c ≡ true → a ≡ true
other_is true b c e is = refl
other_is false b true e is = absurd (let no = e in omega (arith, no))
other_is false b false e is = absurd (cc)

either_is : (a b c : Bool) → one a ≡ one b + one c → a ≡ true → (b ≡ true) ⊎ (c ≡ true)
either_is a true c e is = inl refl
either_is a false true e is = inr refl
either_is true false false e is = absurd (let no = e in omega (arith, no))
either_is false false false e is = absurd (cc)

pub counted_next : (code : Code) (order : Order) (first last : ℕ) (s : Stock) (start : Start) (w : Waiting) (found more : Candidates) → AreKnown code s.needs → Rise 1 s.objects → IsNextGroup s.needs start last (Some w) s.objects → IsWith order s found w.group more
    → AreCounted code order first last s start found → AreCounted code order first last s (Behind w.group) more
counted_next code order first last s start w found more known rise next m c = record {
  count = let all = sums after before with_it os (each_there (λ o. one (after o) ≡ one (before o) + one (with_it o)) 1 os rise each) in let had = c.count in let now = m.count in omega (arith, all, had, now);
  end = subst (λ (z : Option Member). IsEnd order (λ k. passes after k os ≡ true) (option_map (λ m. m.number) z)) (sym m.chosen)
      (end_with order (λ k. passes before k os ≡ true) (λ k. passes with_it k os ≡ true) (λ k. passes after k os ≡ true) found.chosen m.member w.group c.end m.end was own back);
  ty = subst (λ (z : Option Member). IfSome z (λ m. (o : Object) → object_in m.number os ≡ Some o → o.ty ≡ Record m.record_type)) (sym m.chosen) (types order found.chosen m.member c.ty m.end);
  within = λ h behind. let from = c.within w.group next.0 in beyond h from behind;
}
  where
    os : List Object
    os = s.objects

    after : Object → Bool
    after = is_counted code s.needs first last (Behind w.group)

    before : Object → Bool
    before = is_counted code s.needs first last start

    with_it : Object → Bool
    with_it = is_waiting s.needs w.group

    each : (o : Object) → object_in o.number os ≡ Some o → one (after o) ≡ one (before o) + one (with_it o)
    each = each_object code first last start w s known c.within next

    found_so : (n : ℕ) (o : Object) → object_in n os ≡ Some o → object_in o.number os ≡ Some o
    found_so n o there = ap (λ k. object_in k os) (number_found n os o there) ∙ there

    was : (n : ℕ) → passes before n os ≡ true → passes after n os ≡ true
    was n is = let it = passing before n os is in passes_so after n it.0 os it.1 (one_is (after it.0) (before it.0) (with_it it.0) (each it.0 (found_so n it.0 it.1)) it.2)

    own : (n : ℕ) → passes with_it n os ≡ true → passes after n os ≡ true
    own n is = let it = passing with_it n os is in passes_so after n it.0 os it.1 (other_is (after it.0) (before it.0) (with_it it.0) (each it.0 (found_so n it.0 it.1)) it.2)

    back : (n : ℕ) → passes after n os ≡ true → (passes before n os ≡ true) ⊎ (passes with_it n os ≡ true)
    back n is = let it = passing after n os is in by it.0 it.1 (either_is (after it.0) (before it.0) (with_it it.0) (each it.0 (found_so n it.0 it.1)) it.2)
      where
        by : (o : Object) → object_in n os ≡ Some o → (before o ≡ true) ⊎ (with_it o ≡ true) → (passes before n os ≡ true) ⊎ (passes with_it n os ≡ true)
        by o there (inl p) = inl (passes_so before n o os there p)
        by o there (inr p) = inr (passes_so with_it n o os there p)

    beyond : (h : Group) → first ≤ w.group.collection → precedes w.group h ≡ true → first ≤ h.collection
    beyond h from behind = grind (arith, nat_tests, from, behind)

    type_of : (n : ℕ) → passes with_it n os ≡ true → (o : Object) → object_in n os ≡ Some o → o.ty ≡ Record w.group.record_type
    type_of n is o there = waiting_type s.needs w.group o (sym (ap (test with_it) there) ∙ is)

    one_of : (b : Bool) (x y : Member) → IsTyped os x → IsTyped os y → IsTyped os (cond b x y)
    one_of true x y p q = p
    one_of false x y p q = q

    types : (k : Order) (chosen : Option Member) (r : Option ℕ) → IfSome chosen (IsTyped os) → IsEnd k (λ n. passes with_it n os ≡ true) r → IfSome (taken_with k chosen w.group r) (IsTyped os)
    types k chosen None t l = t
    types OrderOf.Newest None (Some n) t l = type_of n l.0
    types OrderOf.Oldest None (Some n) t l = type_of n l.0
    types OrderOf.Newest (Some m) (Some n) t l = one_of (nat_lt m.number n) (record { number = n; record_type = w.group.record_type }) m (type_of n l.0) t
    types OrderOf.Oldest (Some m) (Some n) t l = one_of (nat_lt n m.number) (record { number = n; record_type = w.group.record_type }) m (type_of n l.0) t

-- at the start none is counted
nothing_yet : (needs : List Need) (first last : ℕ) (a : Bool) (x : Origin) (ty : Ty) → (a && (is_between first last x && is_passed (Collection first) (group_by needs x ty))) ≡ false
nothing_yet needs first last a (Declared m) ty = right_false a
nothing_yet needs first last a (Allocated c p) TyOf.Integer = ap (λ b. a && b) (right_false (is_between first last (Allocated c p))) ∙ right_false a
nothing_yet needs first last a (Allocated c p) TyOf.Count = ap (λ b. a && b) (right_false (is_between first last (Allocated c p))) ∙ right_false a
nothing_yet needs first last a (Allocated c p) TyOf.Boolean = ap (λ b. a && b) (right_false (is_between first last (Allocated c p))) ∙ right_false a
nothing_yet needs first last a (Allocated c p) TyOf.Address = ap (λ b. a && b) (right_false (is_between first last (Allocated c p))) ∙ right_false a
nothing_yet needs first last a (Allocated c p) TyOf.Handle = ap (λ b. a && b) (right_false (is_between first last (Allocated c p))) ∙ right_false a
nothing_yet needs first last a (Allocated c p) (TyOf.Access t) = ap (λ b. a && b) (right_false (is_between first last (Allocated c p))) ∙ right_false a
nothing_yet needs first last a (Allocated c p) (Record t) = ap (λ b. a && b) (by (needs_finalization needs t)) ∙ right_false a
  where
    own : Group
    own = record { collection = c; record_type = t }

    among : (b d : Bool) → ((b && d) && not b) ≡ false
    among true true = refl
    among true false = refl
    among false d = refl

    by : (needed : Bool) → (is_between first last (Allocated c p) && is_passed (Collection first) (group_if needed own)) ≡ false
    by true = among (nat_le first c) (nat_le c last)
    by false = right_false (is_between first last (Allocated c p))

pub counted_none : (code : Code) (order : Order) (first last : ℕ) (s : Stock) → Rise 1 s.objects → AreCounted code order first last s (Collection first) (record { count = 0; chosen = None })
counted_none code order first last s rise = record {
  count = sym (ap (λ (l : List Object). length l) (none_passes before s.objects (rise_lower 0 1 s.objects (omega arith) rise) none));
  end = by order;
  ty = tt;
  within = λ g from. grind (arith, nat_tests, from);
}
  where
    before : Object → Bool
    before = is_counted code s.needs first last (Collection first)

    none : (n : ℕ) → passes before n s.objects ≡ true → ⊥
    none n is = let it = passing before n s.objects is in never (before it.0) it.2 (nothing_yet s.needs first last (is_due code it.0) it.0.origin it.0.ty)

    by : (k : Order) → IsEnd k (λ n. passes before n s.objects ≡ true) (option_map (λ (m : Member). m.number) None)
    by OrderOf.Newest = none
    by OrderOf.Oldest = none

-- in the end all are counted
one_left : (j u b f : Bool) → (f ≡ true → b ≡ true → u ≡ false) → ((j && (u && true)) && (b && not f)) ≡ ((j && (u && true)) && b)
one_left j u b false none = ap (λ c. (j && (u && true)) && c) (right_true b)
one_left j u false true none = refl
one_left j u true true none = ap (λ c. (j && (c && true)) && false) (none refl refl) ∙ (by j ∙ sym (ap (λ c. (j && (c && true)) && true) (none refl refl)))
  where
    by : (j : Bool) → ((j && false) && false) ≡ ((j && false) && true)
    by true = refl
    by false = refl

both_undue : (j u b c : Bool) → ((j && (u && false)) && b) ≡ ((j && (u && false)) && c)
both_undue j u b c = undue j u b ∙ sym (undue j u c)

record_left : (start : Start) (own : Group) (needed j u b : Bool) → (is_from start own ≡ true → b ≡ true → (u && is_so own (group_if needed own)) ≡ false)
    → ((j && (u && needed)) && (b && is_passed start (group_if needed own))) ≡ ((j && (u && needed)) && b)
record_left start own false j u b none = both_undue j u (b && false) b
record_left start own true j u b none = one_left j u b (is_from start own) (λ from between. not_untouched own u (none from between))

all_counted : (code : Code) (needs : List Need) (first last : ℕ) (start : Start) (j : Bool) (s : State) (x : Origin) (ty : Ty) → AreKnown code needs → ((h : Group) → is_from start h ≡ true → h.collection ≤ last → (is_untouched s && in_by needs h x ty) ≡ false)
    → counted_by code needs first last start j s x ty ≡ ((j && (is_untouched s && has_part_in code ty)) && is_between first last x)
all_counted code needs first last start j s (Declared m) ty known none = refl
all_counted code needs first last start j s (Allocated c p) TyOf.Integer known none = both_undue j (is_untouched s) (is_between first last (Allocated c p) && false) (is_between first last (Allocated c p))
all_counted code needs first last start j s (Allocated c p) TyOf.Count known none = both_undue j (is_untouched s) (is_between first last (Allocated c p) && false) (is_between first last (Allocated c p))
all_counted code needs first last start j s (Allocated c p) TyOf.Boolean known none = both_undue j (is_untouched s) (is_between first last (Allocated c p) && false) (is_between first last (Allocated c p))
all_counted code needs first last start j s (Allocated c p) TyOf.Address known none = both_undue j (is_untouched s) (is_between first last (Allocated c p) && false) (is_between first last (Allocated c p))
all_counted code needs first last start j s (Allocated c p) TyOf.Handle known none = both_undue j (is_untouched s) (is_between first last (Allocated c p) && false) (is_between first last (Allocated c p))
all_counted code needs first last start j s (Allocated c p) (TyOf.Access t) known none = both_undue j (is_untouched s) (is_between first last (Allocated c p) && false) (is_between first last (Allocated c p))
all_counted code needs first last start j s (Allocated c p) (Record t) known none =
    subst (λ part. ((j && (is_untouched s && part)) && (is_between first last (Allocated c p) && is_passed start (group_by needs (Allocated c p) (Record t)))) ≡ ((j && (is_untouched s && part)) && is_between first last (Allocated c p))) (known t)
    (record_left start own (needs_finalization needs t) j (is_untouched s) (is_between first last (Allocated c p)) (λ from between. none own from (up_to between)))
  where
    own : Group
    own = record { collection = c; record_type = t }

    up_to : (nat_le first c && nat_le c last) ≡ true → c ≤ last
    up_to is = let less = second_holds (nat_le first c) (nat_le c last) is in grind (arith, nat_tests, less)

counted_due : (code : Code) (first last : ℕ) (start : Start) (sets : List ℕ) (s : Stock) → AreKnown code s.needs → Rise 1 s.objects → AreFromTo first last sets → IsNextGroup s.needs start last None s.objects → keep (is_counted code s.needs first last start) s.objects ≡ due code sets s.objects
counted_due code first last start sets s known rise range next =
    kept_same (is_counted code s.needs first last start) (is_candidate code sets) s.objects (each_there (λ o. is_counted code s.needs first last start o ≡ is_candidate code sets o) 1 s.objects rise (λ o there.
    all_counted code s.needs first last start o.joined o.state o.origin o.ty known (λ h from to. sym (ap (test (is_open s.needs h)) there) ∙ next h o.number from to)
    ∙ ap (λ b. is_due code o && b) (sym (group_is first last sets o.origin range))))

pub counted_all : (code : Code) (order : Order) (first last : ℕ) (start : Start) (sets : List ℕ) (s : Stock) (found : Candidates) → AreKnown code s.needs → Rise 1 s.objects → AreFromTo first last sets → IsNextGroup s.needs start last None s.objects → AreCounted code order first last s start found
    → found.count ≡ length (due code sets s.objects)
counted_all code order first last start sets s found known rise range next c = c.count ∙ ap (λ (l : List Object). length l) (counted_due code first last start sets s known rise range next)

has_some_part : (p : Parts) → has_part p ≡ true → p ≢ PartsOf.Plain
has_some_part PartsOf.Plain h is = absurd (cc)
has_some_part PartsOf.Controlled h is = absurd (cc)
has_some_part PartsOf.Within h is = absurd (cc)

-- its parts are controlled
due_parts : (code : Code) (o : Object) (t : ℕ) → is_due code o ≡ true → o.ty ≡ Record t → parts_of code t ≢ PartsOf.Plain
due_parts code o t is ty =
    has_some_part (parts_of code t) (sym (ap (λ (x : Ty). has_part_in code x) ty) ∙ second_holds _ (has_part_in code o.ty) (second_holds o.joined _ is))

first_holds : (a b : Bool) → (a && b) ≡ true → a ≡ true
first_holds true b h = refl
first_holds false b h = absurd (cc)

pub taken_all : (code : Code) (order : Order) (first last : ℕ) (start : Start) (sets : List ℕ) (s : Stock) (found : Candidates) → AreKnown code s.needs → Rise 1 s.objects → AreFromTo first last sets → IsNextGroup s.needs start last None s.objects → AreCounted code order first last s start found
    → IsTaken code order found.count (due code sets s.objects) found.chosen
taken_all code order first last start sets s found known rise range next c = subst (λ (l : List Object). IsTaken code order found.count l found.chosen) (counted_due code first last start sets s known rise range next) (by order found.chosen c.end c.ty)
  where
    os : List Object
    os = s.objects

    before : Object → Bool
    before = is_counted code s.needs first last start

    low : Rise 0 os
    low = rise_lower 0 1 os (omega arith) rise

    some : (n : ℕ) → passes before n os ≡ true → 0 < found.count
    some n is = let more = some_kept before n 0 os low is in let many = c.count in omega (arith, more, many)

    none : ((n : ℕ) → passes before n os ≡ true → ⊥) → found.count ≡ 0
    none no_one = c.count ∙ ap (λ (l : List Object). length l) (none_passes before os low no_one)

    member : (k : Order) (m : Member) → ((o : Object) → object_in m.number os ≡ Some o → o.ty ≡ Record m.record_type) → (o : Object) → object_in m.number os ≡ Some o → before o ≡ true → ((d : Object) → pull_item d (pick_among k found.count) (keep before os) ≡ o)
        → IsMember code k found.count (keep before os) m
    member k m types o there is pulled = record {
      object = o;
      chosen = pulled;
      number = number_found m.number os o there;
      ty = types o there;
      parts = due_parts code o m.record_type (first_holds (is_due code o) _ is) (types o there);
    }

    by : (k : Order) (z : Option Member) → IsEnd k (λ n. passes before n os ≡ true) (option_map (λ m. m.number) z) → IfSome z (λ m. (o : Object) → object_in m.number os ≡ Some o → o.ty ≡ Record m.record_type) → IsTaken code k found.count (keep before os) z
    by OrderOf.Newest None e t = none e
    by OrderOf.Oldest None e t = none e
    by OrderOf.Newest (Some m) e t =
        let it = greatest_pulled before m.number os low e in
        (some m.number e.0, member OrderOf.Newest m t it.0 it.1 it.2 (λ d. ap (λ n. pull_item d (n - 1) (keep before os)) c.count ∙ it.3 d))
    by OrderOf.Oldest (Some m) e t =
        let it = least_pulled before m.number os low e in
        (some m.number e.0, member OrderOf.Oldest m t it.0 it.1 it.2 it.3)

-- There are not too many -----------------------------------------------------------------------------------

counted_allocated : (code : Code) (needs : List Need) (first last : ℕ) (start : Start) (o : Object) → is_counted code needs first last start o ≡ true → is_allocated o.origin ≡ true
counted_allocated code needs first last start o is = by o.origin (second_holds (is_due code o) (is_between first last o.origin && is_passed start (group_of needs o)) is)
  where
    by : (x : Origin) → (is_between first last x && is_passed start (group_by needs x o.ty)) ≡ true → is_allocated x ≡ true
    by (Declared m) t = absurd (cc)
    by (Allocated c p) t = refl

waiting_allocated : (needs : List Need) (g : Group) (o : Object) → is_waiting needs g o ≡ true → is_allocated o.origin ≡ true
waiting_allocated needs g o is = by o.origin (second_holds (is_untouched o.state) (in_by needs g o.origin o.ty) (second_holds o.joined (is_open needs g o) is))
  where
    by : (x : Origin) → in_by needs g x o.ty ≡ true → is_allocated x ≡ true
    by (Declared m) t = absurd (cc)
    by (Allocated c p) t = refl

pub few_counted : (code : Code) (order : Order) (first last : ℕ) (s : Stock) (start : Start) (w : Waiting) (found : Candidates) → length (keep (λ o. is_allocated o.origin) s.objects) < 2 ^ 63 → w.count ≡ length (keep (is_waiting s.needs w.group) s.objects)
    → AreCounted code order first last s start found → found.count + w.count < 2 ^ 64
few_counted code order first last s start w found few many c =
    let a = no_fewer (is_counted code s.needs first last start) (λ o. is_allocated o.origin) s.objects (counted_allocated code s.needs first last start) in
    let b = no_fewer (is_waiting s.needs w.group) (λ o. is_allocated o.origin) s.objects (waiting_allocated s.needs w.group) in
    let count = c.count in
    omega (arith, few, many, a, b, count)

-- Each time there are fewer groups left --------------------------------------------------------------------

abbrev ahead_of : Start → Option Group → Bool
ahead_of start r = option_map_or (λ g. is_from start g) r false

in_group : (g : Group) (r : Option Group) → is_so g r ≡ true → r ≡ Some g
in_group g None is = absurd (cc)
in_group g (Some h) is = ap (λ (x : Group). Some x) (same_is h g is)

pub fewer_ahead : (s : Stock) (start : Start) (last : ℕ) (w : Waiting) → Rise 1 s.objects → IsNextGroup s.needs start last (Some w) s.objects → length (keep (is_ahead s.needs (Behind w.group)) s.objects) < length (keep (is_ahead s.needs start) s.objects)
fewer_ahead s start last w rise next =
    let it = passing (is_open s.needs w.group) next.2.0 s.objects next.2.1 in
    let own : group_of s.needs it.0 ≡ Some w.group = in_group w.group (group_of s.needs it.0) (second_holds (is_untouched it.0.state) (in_by s.needs w.group it.0.origin it.0.ty) it.2) in
    fewer_left (is_ahead s.needs (Behind w.group)) (is_ahead s.needs start) next.2.0 1 s.objects rise (λ o is. by (group_of s.needs o) is) (ap (test (is_ahead s.needs (Behind w.group))) it.1 ∙ (ap (ahead_of (Behind w.group)) own ∙ not_itself w.group))
    (ap (test (is_ahead s.needs start)) it.1 ∙ (ap (ahead_of start) own ∙ next.0))
  where
    by : (r : Option Group) → option_map_or (λ h. precedes w.group h) r false ≡ true → ahead_of start r ≡ true
    by None is = absurd (cc)
    by (Some h) is = from_later start w.group h next.0 is
