-- How the groups of objects change as objects come, take steps and go, and what is found in them.
use Rattle.std.proofs.Common.{◌≡◌, ◌∙◌, ℕ, ◌+◌, ◌-◌, ◌<◌, ◌≤◌, ◌^◌, List, [], ◌∷◌, ◌++◌, Option, Some, None, Bool, true, false, cond, refl, sym, ap, arith, subst, length}
use Rattle.std.specs.Prelude.{nat_eq, nat_le, is_some, ◌&&◌, IfSome, slice_get}
use Rattle.std.specs.List.{list_any}
use Rattle.std.specs.Map.{lookup}
use Rattle.std.specs.Option.{option_map_or}
use Rattle.std.specs.Ordering.{is_eq, is_gt, is_lt, nat_cmp, ordering_then}
use Rattle.std.specs.declared.cmp.Ordering.{Ordering}
use Rattle.std.specs.declared.cmp.Ordering.TheVariants.{Equal, Greater, Less}
use Rattle.std.specs.declared.ops.Bound.{Bound}
use Rattle.std.specs.declared.ops.Bound.TheVariants.{Included, Unbounded}
use Rattle.std.specs.BTreeMap as tree
use Rattle.std.specs.BTreeMap.{BTreeMap}
use Rattle.std.specs.BTreeSet as sorted
use Rattle.std.specs.BTreeSet.{BTreeSet, IsKeyInRange, IsKeyRangeOf}
use Rattle.std.specs.BTreeMap.Range.{IsFromStart, IsLeBy}
use Rattle.std.proofs.lemmas.Bool.Decides.{nat_tests}
use borrow.Author.Tests.{eqb-true, eq-eqb}
use Rattle.ctl_meaning.specs.World.{Finalized, Object}
use Rattle.ctl_meaning.specs.Objects.{is_untouched, opened_objects, with_begun, with_finalized, with_joined}
use Rattle.ctl_groups.specs.declared.groups.Group.{Group}
use Rattle.ctl_groups.specs.declared.groups.Groups.{Groups}
use Rattle.ctl_groups.specs.declared.groups.Start.{Start}
use Rattle.ctl_groups.specs.declared.groups.Start.TheVariants.{Behind, Collection}
use Rattle.ctl_groups.specs.declared.needs.Need.{Need}
use Rattle.ctl_groups.specs.Groups.{AreEntered, AreGrouped, AreNumbers, Has, IsCounted, IsFirstMember, IsLastMember, IsNextBy, KeepsCounts, Moves, count, count_of, group_cmp, group_of, is_from, is_in, is_in_group, is_open, is_same, is_waiting, key_cmp, one, open_group, precedes, start_of, test}
use Rattle.ctl_groups.specs.Members.{IsGreatest, IsLeast}
use Rattle.ctl_storage.proofs.Rising.{in_none, keep_none}

-- Tests ----------------------------------------------------------------------------------------------------

pub both_true : (a b : Bool) → (a && b) ≡ true → (a ≡ true) × (b ≡ true)
both_true true b is = (refl, is)
both_true false b is = absurd (cc)

pub all_true : (a b : Bool) → a ≡ true → b ≡ true → (a && b) ≡ true
all_true a b p q = ap (λ x. x && b) p ∙ q

right_true : (b : Bool) → (b && true) ≡ b
right_true true = refl
right_true false = refl

right_false : (b : Bool) → (b && false) ≡ false
right_false true = refl
right_false false = refl

pub never : (b : Bool) → b ≡ true → b ≡ false → ⊥
never b p q = let differs : true ≡ false = sym p ∙ q in cc

pub is_false : (b : Bool) → (b ≡ true → ⊥) → b ≡ false
is_false true not = absurd (not refl)
is_false false not = refl

-- Groups ---------------------------------------------------------------------------------------------------

pub same_is : (h g : Group) → is_same h g ≡ true → h ≡ g
same_is h g is =
    let tests = both_true (nat_eq h.collection g.collection) (nat_eq h.record_type g.record_type) is in
    ap (λ (c : ℕ). (let x : Group = record { collection = c; record_type = h.record_type } in x)) (eqb-true h.collection g.collection tests.0)
    ∙ ap (λ (t : ℕ). (let x : Group = record { collection = g.collection; record_type = t } in x)) (eqb-true h.record_type g.record_type tests.1)

pub same_self : (g : Group) → is_same g g ≡ true
same_self g = all_true (nat_eq g.collection g.collection) (nat_eq g.record_type g.record_type) (eq-eqb g.collection g.collection refl) (eq-eqb g.record_type g.record_type refl)

-- which comes first
pub later : (a b c : Group) → precedes a b ≡ true → precedes b c ≡ true → precedes a c ≡ true
later a b c p q = grind (arith, nat_tests, p, q)

pub not_itself : (a : Group) → precedes a a ≡ false
not_itself a = grind (arith, nat_tests)

pub neither : (a b : Group) → precedes a b ≡ false → precedes b a ≡ false → is_same a b ≡ true
neither a b p q = grind (arith, nat_tests, p, q)

then_eq : (a b : Ordering) → is_eq (ordering_then a b) ≡ (is_eq a && is_eq b)
then_eq Less b = refl
then_eq Equal b = refl
then_eq Greater b = refl

number_eq : (a b : ℕ) → is_eq (nat_cmp a b) ≡ nat_eq a b
number_eq a b = grind (arith, nat_tests)

same_group : (g h : Group) → is_eq (group_cmp g h) ≡ is_same g h
same_group g h =
    then_eq (nat_cmp g.collection h.collection) (nat_cmp g.record_type h.record_type)
    ∙ (ap (λ b. b && is_eq (nat_cmp g.record_type h.record_type)) (number_eq g.collection h.collection) ∙ ap (λ b. nat_eq g.collection h.collection && b) (number_eq g.record_type h.record_type))

same_key : (g h : Group) (n k : ℕ) → is_eq (key_cmp (g, n) (h, k)) ≡ (is_same g h && nat_eq n k)
same_key g h n k = then_eq (group_cmp g h) (nat_cmp n k) ∙ (ap (λ b. b && is_eq (nat_cmp n k)) (same_group g h) ∙ ap (λ b. is_same g h && b) (number_eq n k))

abbrev Keys : Type 0
Keys = BTreeSet (Group × ℕ)

abbrev Joined : Type 0
Joined = BTreeMap Group ℕ

abbrev has : Group → ℕ → Keys → Bool
has g n keys = sorted.contains key_cmp keys (g, n)

key_changed : (b : Bool) (h : Group) (n : ℕ) (old new : Keys) → sorted.Updates key_cmp old new (h, n) b → (g : Group) (k : ℕ) → has g k new ≡ cond (is_same h g && nat_eq n k) b (has g k old)
key_changed b h n old new updates g k = updates.0 (g, k) ∙ ap (λ t. cond t b (has g k old)) (same_key h g n k)

pub count_changed : (w : Option ℕ) (h : Group) (old new : Joined) → tree.Updates group_cmp old new h w → (g : Group) → count_of g new ≡ cond (is_same h g) w (count_of g old)
count_changed w h old new updates g = updates.0 g ∙ ap (λ t. cond t w (count_of g old)) (same_group h g)

pub none_grouped : (needs : List Need) (s : Groups) → s.untouched.keys ≡ [] → s.joined.entries ≡ [] → AreGrouped needs [] s
none_grouped needs s no_keys no_counts = record {
  members = λ g n. not_there g n ∙ sym (ap (test (is_open needs g)) (in_none n));
  entered = λ g n is. absurd (never (is_in g n s) is (not_there g n));
  counts = λ g. ap (λ (es : List (Group × ℕ)). option_map_or (λ k. k) (lookup (λ h. is_eq (group_cmp g h)) es) 0) no_counts ∙ sym (ap (λ (l : List Object). length l) (keep_none (is_waiting needs g)));
}
  where
    not_there : (g : Group) (n : ℕ) → is_in g n s ≡ false
    not_there g n = ap (λ (l : List (Group × ℕ)). list_any (λ q. is_eq (key_cmp (g, n) q)) l) no_keys

-- Counts ---------------------------------------------------------------------------------------------------

abbrev pub value : Option ℕ → ℕ
value o = option_map_or (λ k. k) o 0

-- a group that has none is given one
pub entered_new : (h : Group) (old new : Joined) → tree.Updates group_cmp old new h (Some 0) → is_some (count_of h old) ≡ false → KeepsCounts old new
entered_new h old new updates none = (
  λ g. ap value (count_changed (Some 0) h old new updates g) ∙ same g (is_same h g) refl,
  λ g is. ap (λ o. is_some o) (count_changed (Some 0) h old new updates g) ∙ kept g (is_same h g) is,
)
  where
    nothing : (o : Option ℕ) → is_some o ≡ false → value o ≡ 0
    nothing None is = refl
    nothing (Some k) is = absurd (cc)

    same : (g : Group) (b : Bool) → is_same h g ≡ b → value (cond b (Some 0) (count_of g old)) ≡ value (count_of g old)
    same g false is = refl
    same g true is = sym (ap (λ x. value (count_of x old)) (sym (same_is h g is)) ∙ nothing (count_of h old) none)

    kept : (g : Group) (b : Bool) → is_some (count_of g old) ≡ true → is_some (cond b (Some 0) (count_of g old)) ≡ true
    kept g false is = is
    kept g true is = refl

-- An object comes ------------------------------------------------------------------------------------------

-- whether it stands in a group
pub open_by : (needs : List Need) (x : Object) (r : Option Group) → r ≡ open_group needs x → (g : Group) → is_open needs g x ≡ option_map_or (λ h. is_same h g) r false
open_by needs x r is g = by (is_untouched x.state) ∙ ap (λ o. option_map_or (λ h. is_same h g) o false) (sym is)
  where
    by : (b : Bool) → (b && is_in_group needs g x) ≡ option_map_or (λ h. is_same h g) (cond b (group_of needs x) None) false
    by true = refl
    by false = refl

not_waiting : (needs : List Need) (g : Group) (x : Object) → is_open needs g x ≡ false → is_waiting needs g x ≡ false
not_waiting needs g x outside = ap (λ b. x.joined && b) outside ∙ right_false x.joined

-- one that stands in no group
pub comes_outside : (needs : List Need) (n : ℕ) (x : Object) (s : Groups) → AreEntered s → ((g : Group) → is_in g n s ≡ false) → ((g : Group) → is_open needs g x ≡ false) → Moves needs n None (Some x) s s
comes_outside needs n x s entered new outside = record {
  members = λ g k. by g k (nat_eq n k) refl;
  entered = entered;
  counts = λ g. ap (λ b. count g s + one b) (sym (not_waiting needs g x (outside g)));
}
  where
    by : (g : Group) (k : ℕ) (b : Bool) → nat_eq n k ≡ b → is_in g k s ≡ cond b (is_open needs g x) (is_in g k s)
    by g k false is = refl
    by g k true is = ap (λ m. is_in g m s) (sym (eqb-true n k is)) ∙ (new g ∙ sym (outside g))

pub comes : (needs : List Need) (n : ℕ) (x : Object) (s t : Groups) (h : Group) → Some h ≡ open_group needs x → x.joined ≡ false → AreEntered s → ((g : Group) → is_in g n s ≡ false) → sorted.Updates key_cmp s.untouched t.untouched (h, n) true
    → KeepsCounts s.joined t.joined → is_some (count_of h t.joined) ≡ true → Moves needs n None (Some x) s t
comes needs n x s t h own new_one entered new updates keeps there = record {
  members = λ g k. changed g k ∙ by g k (nat_eq n k) refl;
  entered = λ g k is. is_there g k (is_same h g && nat_eq n k) refl (sym (changed g k) ∙ is);
  counts = λ g. ap (λ c. c + 0) (keeps.0 g) ∙ ap (λ b. count g s + one (b && is_open needs g x)) (sym new_one);
}
  where
    changed : (g : Group) (k : ℕ) → is_in g k t ≡ cond (is_same h g && nat_eq n k) true (is_in g k s)
    changed g k = key_changed true h n s.untouched t.untouched updates g k

    stands : (g : Group) → is_open needs g x ≡ is_same h g
    stands g = open_by needs x (Some h) own g

    here : (g : Group) (b : Bool) → cond b true (is_in g n s) ≡ b
    here g true = refl
    here g false = new g

    by : (g : Group) (k : ℕ) (b : Bool) → nat_eq n k ≡ b → cond (is_same h g && b) true (is_in g k s) ≡ cond b (is_open needs g x) (is_in g k s)
    by g k false is = ap (λ b. cond b true (is_in g k s)) (right_false (is_same h g))
    by g k true is =
        ap (λ b. cond b true (is_in g k s)) (right_true (is_same h g))
        ∙ (ap (λ m. cond (is_same h g) true (is_in g m s)) (sym (eqb-true n k is)) ∙ (here g (is_same h g) ∙ sym (stands g)))

    is_there : (g : Group) (k : ℕ) (b : Bool) → (is_same h g && nat_eq n k) ≡ b → cond b true (is_in g k s) ≡ true → is_some (count_of g t.joined) ≡ true
    is_there g k false which is = keeps.1 g (entered g k is)
    is_there g k true which is = ap (λ y. is_some (count_of y t.joined)) (sym (same_is h g (both_true (is_same h g) (nat_eq n k) which).0)) ∙ there

-- An object goes -------------------------------------------------------------------------------------------

-- where groups see it before and after as they see it now, nothing moves
pub stays : (needs : List Need) (n : ℕ) (x y : Object) (s : Groups) → Has needs n x s → ((g : Group) → is_open needs g y ≡ is_open needs g x) → ((g : Group) → is_waiting needs g y ≡ is_waiting needs g x) → Moves needs n (Some x) (Some y) s s
stays needs n x y s h stands waiting = record {
  members = λ g k. by g k (nat_eq n k) refl;
  entered = h.entered;
  counts = λ g. ap (λ b. count g s + one b) (sym (waiting g));
}
  where
    by : (g : Group) (k : ℕ) (b : Bool) → nat_eq n k ≡ b → is_in g k s ≡ cond b (is_open needs g y) (is_in g k s)
    by g k false is = refl
    by g k true is = ap (λ m. is_in g m s) (sym (eqb-true n k is)) ∙ (h.there g ∙ sym (stands g))

-- one that stands in no group
pub goes_outside : (needs : List Need) (n : ℕ) (x : Object) (s : Groups) → Has needs n x s → None ≡ open_group needs x → Moves needs n (Some x) None s s
goes_outside needs n x s h own = record {
  members = λ g k. by g k (nat_eq n k) refl;
  entered = h.entered;
  counts = λ g. ap (λ b. count g s + one b) (not_waiting needs g x (outside g));
}
  where
    outside : (g : Group) → is_open needs g x ≡ false
    outside g = open_by needs x None own g

    by : (g : Group) (k : ℕ) (b : Bool) → nat_eq n k ≡ b → is_in g k s ≡ cond b false (is_in g k s)
    by g k false is = refl
    by g k true is = ap (λ m. is_in g m s) (sym (eqb-true n k is)) ∙ (h.there g ∙ outside g)

-- its number is taken out of its group
taken_out : (needs : List Need) (n : ℕ) (x : Object) (s : Groups) (keys : Keys) (h : Group) → Has needs n x s → Some h ≡ open_group needs x → sorted.Updates key_cmp s.untouched keys (h, n) false → (g : Group) (k : ℕ) → has g k keys ≡ cond (nat_eq n k) false (is_in g k s)
taken_out needs n x s keys h has_x own updates g k = key_changed false h n s.untouched keys updates g k ∙ by (nat_eq n k) refl
  where
    here : (b : Bool) → is_same h g ≡ b → cond b false (is_in g n s) ≡ false
    here true is = refl
    here false is = has_x.there g ∙ (open_by needs x (Some h) own g ∙ is)

    by : (b : Bool) → nat_eq n k ≡ b → cond (is_same h g && b) false (is_in g k s) ≡ cond b false (is_in g k s)
    by false is = ap (λ b. cond b false (is_in g k s)) (right_false (is_same h g))
    by true is = ap (λ b. cond b false (is_in g k s)) (right_true (is_same h g)) ∙ (ap (λ m. cond (is_same h g) false (is_in g m s)) (sym (eqb-true n k is)) ∙ here (is_same h g) refl)

was_in : (n k : ℕ) (b : Bool) → cond (nat_eq n k) false b ≡ true → b ≡ true
was_in n k b is = by (nat_eq n k) is
  where
    by : (t : Bool) → cond t false b ≡ true → b ≡ true
    by true is = absurd (cc)
    by false is = is

-- one that has not joined, and not the last of its group
pub goes_uncounted : (needs : List Need) (n : ℕ) (x : Object) (s : Groups) (keys : Keys) (h : Group) → Has needs n x s → Some h ≡ open_group needs x → sorted.Updates key_cmp s.untouched keys (h, n) false → x.joined ≡ false
    → Moves needs n (Some x) None s (record { untouched = keys; joined = s.joined })
goes_uncounted needs n x s keys h has_x own updates not_joined = record {
  members = λ g k. taken_out needs n x s keys h has_x own updates g k;
  entered = λ g k is. has_x.entered g k (was_in n k (is_in g k s) (sym (taken_out needs n x s keys h has_x own updates g k) ∙ is));
  counts = λ g. ap (λ b. count g s + one (b && is_open needs g x)) not_joined;
}

-- one that has
pub goes_counted : (needs : List Need) (n : ℕ) (x : Object) (s : Groups) (keys : Keys) (m : Joined) (h : Group) → Has needs n x s → Some h ≡ open_group needs x → sorted.Updates key_cmp s.untouched keys (h, n) false → x.joined ≡ true
    → IsCounted h (count h s - 1) s.joined m → Moves needs n (Some x) None s (record { untouched = keys; joined = m })
goes_counted needs n x s keys m h has_x own updates joined less = record {
  members = λ g k. taken_out needs n x s keys h has_x own updates g k;
  entered = λ g k is. ap (λ o. is_some o) (less g) ∙ kept g (is_same h g) (has_x.entered g k (was_in n k (is_in g k s) (sym (taken_out needs n x s keys h has_x own updates g k) ∙ is)));
  counts = λ g. ap (λ o. value o + one (is_waiting needs g x)) (less g) ∙ by g (is_same h g) refl;
}
  where
    waits : (g : Group) → is_waiting needs g x ≡ is_same h g
    waits g = ap (λ b. b && is_open needs g x) joined ∙ open_by needs x (Some h) own g

    kept : (g : Group) (b : Bool) → is_some (count_of g s.joined) ≡ true → is_some (cond b (Some (count h s - 1)) (count_of g s.joined)) ≡ true
    kept g true is = refl
    kept g false is = is

    by : (g : Group) (b : Bool) → is_same h g ≡ b → value (cond b (Some (count h s - 1)) (count_of g s.joined)) + one (is_waiting needs g x) ≡ count g s + 0
    by g false is = ap (λ t. count g s + one t) (waits g ∙ is)
    by g true is =
        let some : one (is_waiting needs g x) ≡ 1 = ap one (waits g ∙ is) in
        let own_count : count h s ≡ count g s = ap (λ y. count y s) (same_is h g is) in
        let least = has_x.least g in
        omega (arith, some, own_count, least)

-- the last one of its group
pub goes_last : (needs : List Need) (n : ℕ) (x : Object) (s : Groups) (keys : Keys) (m : Joined) (h : Group) → Has needs n x s → Some h ≡ open_group needs x → sorted.Updates key_cmp s.untouched keys (h, n) false → ((k : ℕ) → (0 ≤ k) × (has h k keys ≡ true) → ⊥)
    → tree.Updates group_cmp s.joined m h None → Moves needs n (Some x) None s (record { untouched = keys; joined = m })
goes_last needs n x s keys m h has_x own updates none gone = record {
  members = out;
  entered = λ g k is. ap (λ o. is_some o) (dropped g) ∙ kept g k is (is_same h g) refl;
  counts = λ g. ap (λ o. value o + one (is_waiting needs g x)) (dropped g) ∙ by g (is_same h g) refl;
}
  where
    out : (g : Group) (k : ℕ) → has g k keys ≡ cond (nat_eq n k) false (is_in g k s)
    out = taken_out needs n x s keys h has_x own updates

    dropped : (g : Group) → count_of g m ≡ cond (is_same h g) None (count_of g s.joined)
    dropped g = count_changed None h s.joined m gone g

    kept : (g : Group) (k : ℕ) → has g k keys ≡ true → (b : Bool) → is_same h g ≡ b → is_some (cond b None (count_of g s.joined)) ≡ true
    kept g k is false which = has_x.entered g k (was_in n k (is_in g k s) (sym (out g k) ∙ is))
    kept g k is true which = absurd (none k (omega arith, ap (λ y. has y k keys) (same_is h g which) ∙ is))

    alone : (k : ℕ) → nat_eq n k ≡ false → is_in h k s ≡ false
    alone k other = is_false (is_in h k s) (λ is. none k (omega arith, out h k ∙ (ap (λ b. cond b false (is_in h k s)) other ∙ is)))

    by : (g : Group) (b : Bool) → is_same h g ≡ b → value (cond b None (count_of g s.joined)) + one (is_waiting needs g x) ≡ count g s + 0
    by g false is = ap (λ t. count g s + one t) (not_waiting needs g x (open_by needs x (Some h) own g ∙ is))
    by g true is =
        let all : count g s ≡ one (is_waiting needs g x) = has_x.only g (λ k other. ap (λ y. is_in y k s) (sym (same_is h g is)) ∙ alone k other) in
        omega (arith, all)

-- An object takes a step -----------------------------------------------------------------------------------

pub begins : (needs : List Need) (n : ℕ) (x : Object) (s t : Groups) → Moves needs n (Some x) None s t → Moves needs n (Some x) (Some (with_begun x)) s t
unfolding opened_objects
begins needs n x s t m = record { members = m.members; entered = m.entered; counts = λ g. m.counts g ∙ ap (λ b. count g s + one b) (sym (right_false x.joined)) }

pub ends : (needs : List Need) (n : ℕ) (x : Object) (s : Groups) → Has needs n x s → Moves needs n (Some x) (Some (with_finalized x)) s s
unfolding opened_objects
ends needs n x s h = stays needs n x (with_finalized x) s h (λ g. same g (is_untouched x.state) refl) (λ g. waiting g (is_untouched x.state) refl)
  where
    finalized : Object
    finalized = record x { state = Finalized }

    same : (g : Group) (b : Bool) → is_untouched x.state ≡ b → is_open needs g (cond b x finalized) ≡ is_open needs g x
    same g true is = refl
    same g false is = ap (λ b. b && is_in_group needs g x) (sym is)

    waiting : (g : Group) (b : Bool) → is_untouched x.state ≡ b → is_waiting needs g (cond b x finalized) ≡ is_waiting needs g x
    waiting g true is = refl
    waiting g false is = ap (λ b. x.joined && (b && is_in_group needs g x)) (sym is)

pub joins_again : (needs : List Need) (n : ℕ) (x : Object) (s : Groups) → Has needs n x s → x.joined ≡ true → Moves needs n (Some x) (Some (with_joined x)) s s
unfolding opened_objects
joins_again needs n x s h joined = stays needs n x (with_joined x) s h (λ g. refl) (λ g. ap (λ b. b && is_open needs g x) (sym joined))

pub joins_outside : (needs : List Need) (n : ℕ) (x : Object) (s : Groups) → Has needs n x s → None ≡ open_group needs x → Moves needs n (Some x) (Some (with_joined x)) s s
unfolding opened_objects
joins_outside needs n x s h own = stays needs n x (with_joined x) s h (λ g. refl) (λ g. open_by needs x None own g ∙ sym (not_waiting needs g x (open_by needs x None own g)))

pub joins : (needs : List Need) (n : ℕ) (x : Object) (s : Groups) (m : Joined) (h : Group) → Has needs n x s → Some h ≡ open_group needs x → x.joined ≡ false → IsCounted h (count h s + 1) s.joined m
    → Moves needs n (Some x) (Some (with_joined x)) s (record { untouched = s.untouched; joined = m })
unfolding opened_objects
joins needs n x s m h has_x own not_joined more = record {
  members = λ g k. (stays needs n x x s has_x (λ g. refl) (λ g. refl)).members g k;
  entered = λ g k is. ap (λ o. is_some o) (more g) ∙ kept g (is_same h g) (has_x.entered g k is);
  counts = λ g. ap (λ o. value o + one (is_waiting needs g x)) (more g) ∙ by g (is_same h g) refl;
}
  where
    kept : (g : Group) (b : Bool) → is_some (count_of g s.joined) ≡ true → is_some (cond b (Some (count h s + 1)) (count_of g s.joined)) ≡ true
    kept g true is = refl
    kept g false is = is

    waits : (g : Group) → one (is_waiting needs g x) ≡ 0
    waits g = ap (λ b. one (b && is_open needs g x)) not_joined

    by : (g : Group) (b : Bool) → is_same h g ≡ b → value (cond b (Some (count h s + 1)) (count_of g s.joined)) + one (is_waiting needs g x) ≡ count g s + one (is_open needs g x)
    by g false is = ap (λ c. count g s + c) (waits g ∙ ap one (sym (open_by needs x (Some h) own g ∙ is)))
    by g true is =
        let none = waits g in
        let some : one (is_open needs g x) ≡ 1 = ap one (open_by needs x (Some h) own g ∙ is) in
        let own_count : count h s ≡ count g s = ap (λ y. count y s) (same_is h g is) in
        omega (arith, none, some, own_count)

-- the count of a group whose object has joined is not 0, and one whose object has not begun has a count
pub has_counted : (needs : List Need) (n : ℕ) (x : Object) (s : Groups) (h : Group) → Has needs n x s → Some h ≡ open_group needs x → x.joined ≡ true → 0 < count h s
has_counted needs n x s h has_x own joined =
    let least = has_x.least h in
    let some : one (is_waiting needs h x) ≡ 1 = ap one (ap (λ b. b && is_open needs h x) joined ∙ (open_by needs x (Some h) own h ∙ same_self h)) in
    omega (arith, least, some)

pub has_count : (needs : List Need) (n : ℕ) (x : Object) (s : Groups) (h : Group) → Has needs n x s → Some h ≡ open_group needs x → is_some (count_of h s.joined) ≡ true
has_count needs n x s h has_x own = has_x.entered h n (has_x.there h ∙ (open_by needs x (Some h) own h ∙ same_self h))

-- What is found --------------------------------------------------------------------------------------------

pub first_of_range : (start : Bound (Group × ℕ)) (s : Groups) (r t : List (Group × ℕ)) (f : Group × ℕ) → IsKeyRangeOf key_cmp start Unbounded s.untouched r → r ≡ f ∷ t → IsFirstMember start (Some f) s
first_of_range start s r t f range is =
    let here : slice_get r 0 ≡ Some f = ap (λ l. slice_get l 0) is in
    let it : IsKeyInRange key_cmp start Unbounded s.untouched f = subst (λ o. IfSome o (IsKeyInRange key_cmp start Unbounded s.untouched)) here range.1 in
    (it.0.0, it.1, λ g k from listed. subst (λ o. IfSome o (λ e. IsLeBy key_cmp e (g, k))) here (range.2 (g, k) (from, tt) listed))

pub none_of_range : (start : Bound (Group × ℕ)) (s : Groups) (r : List (Group × ℕ)) → IsKeyRangeOf key_cmp start Unbounded s.untouched r → r ≡ [] → IsFirstMember start None s
none_of_range start s r range is = λ g k from. range.5 is (g, k) (from, tt)

pub last_of_range : (end : Bound (Group × ℕ)) (s : Groups) (r t : List (Group × ℕ)) (f : Group × ℕ) → IsKeyRangeOf key_cmp Unbounded end s.untouched r → r ≡ t ++ f ∷ [] → IsLastMember end (Some f) s
last_of_range end s r t f range is =
    let it = range.3 f t is in
    (it.0.1, it.1, λ g k to listed. range.4 f t is (g, k) (tt, to) listed)

pub none_to_end : (end : Bound (Group × ℕ)) (s : Groups) (r : List (Group × ℕ)) → IsKeyRangeOf key_cmp Unbounded end s.untouched r → r ≡ [] → IsLastMember end None s
none_to_end end s r range is = λ g k to. range.5 is (g, k) (tt, to)

-- the order of keys
own_least : (g : Group) (n k : ℕ) → is_gt (key_cmp (g, n) (g, k)) ≡ false → n ≤ k
own_least g n k is = grind (arith, nat_tests, is)

least_own : (g : Group) (n k : ℕ) → n ≤ k → is_gt (key_cmp (g, n) (g, k)) ≡ false
least_own g n k less = grind (arith, nat_tests, less)

own_greatest : (g : Group) (n k : ℕ) → is_lt (key_cmp (g, n) (g, k)) ≡ false → k ≤ n
own_greatest g n k is = grind (arith, nat_tests, is)

not_before : (g h : Group) (n k : ℕ) → is_gt (key_cmp (g, n) (h, k)) ≡ false → precedes h g ≡ false
not_before g h n k is = grind (arith, nat_tests, is)

not_behind : (g h : Group) (n k : ℕ) → is_lt (key_cmp (g, n) (h, k)) ≡ false → precedes g h ≡ false
not_behind g h n k is = grind (arith, nat_tests, is)

before : (g h : Group) (n k : ℕ) → precedes g h ≡ true → key_cmp (g, n) (h, k) ≡ Less
before g h n k is = grind (arith, nat_tests, is)

behind_all : (g h : Group) (m n : ℕ) → key_cmp (g, m) (h, n) ≡ Less → n ≤ m → precedes g h ≡ true
behind_all g h m n less few = grind (arith, nat_tests, less, few)

from_collection : (c t n : ℕ) (h : Group) → nat_le c h.collection ≡ true → is_gt (key_cmp (record { collection = c; record_type = 0 }, 0) (h, n)) ≡ false
from_collection c t n h is = grind (arith, nat_tests, is)

of_collection : (c n : ℕ) (h : Group) → is_gt (key_cmp (record { collection = c; record_type = 0 }, 0) (h, n)) ≡ false → nat_le c h.collection ≡ true
of_collection c n h is = grind (arith, nat_tests, is)

earlier : (g h : Group) → g.collection < h.collection → precedes g h ≡ true
earlier g h less = grind (arith, nat_tests, less)

pub least_member : (s : Groups) (g : Group) (start : ℕ) (f : Group) (n : ℕ) → IsFirstMember (Included (g, start)) (Some (f, n)) s → f ≡ g → IsLeast (λ k. (start ≤ k) × (is_in g k s ≡ true)) (Some n)
least_member s g start f n first is = by (subst (λ (h : Group). IsFirstMember (Included (g, start)) (Some (h, n)) s) is first)
  where
    by : IsFirstMember (Included (g, start)) (Some (g, n)) s → IsLeast (λ k. (start ≤ k) × (is_in g k s ≡ true)) (Some n)
    by here = ((own_least g start n here.0, here.1), λ k it. own_least g n k (here.2 g k (least_own g start k it.0) it.1))

pub no_least_member : (s : Groups) (g : Group) (start : ℕ) → IsFirstMember (Included (g, start)) None s → IsLeast (λ k. (start ≤ k) × (is_in g k s ≡ true)) None
no_least_member s g start first = λ k it. never (is_in g k s) it.1 (first g k (least_own g start k it.0))

pub other_first : (s : Groups) (g : Group) (start : ℕ) (f : Group) (n : ℕ) → IsFirstMember (Included (g, start)) (Some (f, n)) s → is_same f g ≡ false → IsLeast (λ k. (start ≤ k) × (is_in g k s ≡ true)) None
other_first s g start f n first differs = λ k it.
    let after = not_before f g n k (first.2 g k (least_own g start k it.0) it.1) in
    never (is_same f g) (neither f g (not_before g f start n first.0) after) differs

pub greatest_member : (s : Groups) (g : Group) (end : ℕ) (f : Group) (n : ℕ) → IsLastMember (Included (g, end)) (Some (f, n)) s → f ≡ g → IsGreatest (λ k. (k ≤ end) × (is_in g k s ≡ true)) (Some n)
greatest_member s g end f n last is = by (subst (λ (h : Group). IsLastMember (Included (g, end)) (Some (h, n)) s) is last)
  where
    by : IsLastMember (Included (g, end)) (Some (g, n)) s → IsGreatest (λ k. (k ≤ end) × (is_in g k s ≡ true)) (Some n)
    by here = ((own_least g n end here.0, here.1), λ k it. own_greatest g n k (here.2 g k (least_own g k end it.0) it.1))

pub no_greatest_member : (s : Groups) (g : Group) (end : ℕ) → IsLastMember (Included (g, end)) None s → IsGreatest (λ k. (k ≤ end) × (is_in g k s ≡ true)) None
no_greatest_member s g end last = λ k it. never (is_in g k s) it.1 (last g k (least_own g k end it.0))

pub other_last : (s : Groups) (g : Group) (end : ℕ) (f : Group) (n : ℕ) → IsLastMember (Included (g, end)) (Some (f, n)) s → is_same f g ≡ false → IsGreatest (λ k. (k ≤ end) × (is_in g k s ≡ true)) None
other_last s g end f n last differs = λ k it.
    let early = not_behind f g n k (last.2 g k (least_own g k end it.0) it.1) in
    never (is_same f g) (neither f g early (not_before f g n end last.0)) differs

-- The next group -------------------------------------------------------------------------------------------

key_from : (start : Start) (g : Group) (n : ℕ) → is_from start g ≡ true → IsFromStart key_cmp (start_of start) (g, n)
key_from (Collection c) g n is = from_collection c 0 n g is
key_from (Behind a) g n is = before a g (2 ^ 64 - 1) n is

group_from : (start : Start) (g : Group) (n : ℕ) → n < 2 ^ 64 → IsFromStart key_cmp (start_of start) (g, n) → is_from start g ≡ true
group_from (Collection c) g n few from = of_collection c n g from
group_from (Behind a) g n few from = behind_all a g (2 ^ 64 - 1) n from (omega (arith, few))

pub next_too_far : (start : Start) (last : ℕ) (s : Groups) (f : Group) (n : ℕ) → IsFirstMember (start_of start) (Some (f, n)) s → last < f.collection → IsNextBy (λ g n. is_in g n s) (λ g. count g s) start last None
next_too_far start last s f n first far = λ g k from to. is_false (is_in g k s) (λ is.
    never (precedes g f) (earlier g f (omega (arith, to, far))) (not_before f g n k (first.2 g k (key_from start g k from) is)))

pub next_found : (start : Start) (last : ℕ) (s : Groups) (f : Group) (n m : ℕ) → AreNumbers s → IsFirstMember (start_of start) (Some (f, n)) s → f.collection ≤ last → m ≡ count f s
    → IsNextBy (λ g n. is_in g n s) (λ g. count g s) start last (Some (record { group = f; count = m }))
next_found start last s f n m numbers first to many = (
  group_from start f n (numbers f n first.1) first.0,
  to,
  (n, first.1),
  many,
  λ g k from before. is_false (is_in g k s) (λ is. never (precedes g f) before (not_before f g n k (first.2 g k (key_from start g k from) is))),
)
