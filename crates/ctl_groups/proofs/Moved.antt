-- Groups follow the objects: where one object changes, comes or goes, its group has it, has it no more, or counts it.
use Rattle.std.proofs.Common.{◌≡◌, ◌∙◌, ℕ, ◌+◌, ◌≤◌, ◌^◌, List, [], ◌∷◌, Option, Some, None, Bool, true, false, cond, refl, sym, ap, arith, length}
use Rattle.std.specs.Prelude.{nat_eq, not, ◌&&◌}
use Rattle.std.specs.Option.{option_map}
use Rattle.std.proofs.lemmas.Bool.Decides.{nat_tests}
use borrow.Author.Tests.{eqb-true}
use Rattle.ctl_meaning.specs.World.{Finalized, Object}
use Rattle.ctl_meaning.specs.Lists.{keep}
use Rattle.ctl_meaning.specs.Objects.{is_untouched, object_in, opened_objects}
use Rattle.ctl_groups.specs.declared.groups.Group.{Group}
use Rattle.ctl_groups.specs.declared.groups.Groups.{Groups}
use Rattle.ctl_storage.specs.declared.existing.Step.{Step}
use Rattle.ctl_storage.specs.declared.existing.Step.TheVariants as StepOf
use Rattle.ctl_storage.specs.declared.existing.Allocation.{Allocation}
use Rattle.ctl_groups.specs.declared.needs.Need.{Need}
use Rattle.ctl_groups.specs.Groups.{AreAlike, AreGrouped, Has, IsSame, Moves, count, is_in, is_open, is_waiting, one, test}
use Rattle.ctl_storage.specs.Allocated.{IsKnown, blank, known}
use Rattle.ctl_groups.specs.Members.{passes}
use Rattle.ctl_storage.specs.Order.{Rise}
use Rattle.ctl_storage.specs.Stages.{with_step}
use Rattle.ctl_storage.proofs.Kept.{no_more}
use Rattle.ctl_storage.proofs.Rising.{in_keep, in_more, in_none, keep_more, keep_none, kept_one, none_below, number_found, rise_keep, same_objects}

-- How many objects pass a test -----------------------------------------------------------------------------

pub length_more : (p : Object → Bool) (x : Object) (xs : List Object) → length (keep p (x ∷ xs)) ≡ one (p x) + length (keep p xs)
length_more p x xs = ap (λ (l : List Object). length l) (keep_more p x xs) ∙ by (p x)
  where
    by : (b : Bool) → length (cond b (x ∷ keep p xs) (keep p xs)) ≡ one b + length (keep p xs)
    by true = omega arith
    by false = omega arith

pub length_none : (p : Object → Bool) → length (keep p []) ≡ 0
length_none p = ap (λ (l : List Object). length l) (keep_none p)

right_true : (b : Bool) → (b && true) ≡ b
right_true true = refl
right_true false = refl

right_false : (b : Bool) → (b && false) ≡ false
right_false true = refl
right_false false = refl

-- one that passes and has another number
abbrev pub other : (Object → Bool) → ℕ → Object → Bool
other p n o = p o && not (nat_eq o.number n)

-- those of other numbers, and the one of this number
pub own_count : (p : Object → Bool) (n low : ℕ) (os : List Object) → Rise low os → length (keep p os) ≡ length (keep (other p n) os) + one (test p (object_in n os))
own_count p n low [] rise =
    let a = length_none p in
    let b = length_none (other p n) in
    let c : one (test p (object_in n [])) ≡ 0 = ap (λ o. one (test p o)) (in_none n) in
    omega (arith, a, b, c)
own_count p n low (x ∷ xs) rise = by (own_count p n (x.number + 1) xs rise.1) (nat_eq x.number n) refl
  where
    found : (b : Bool) → nat_eq x.number n ≡ b → test p (object_in n (x ∷ xs)) ≡ test p (cond b (Some x) (object_in n xs))
    found b is = ap (test p) (in_more n x xs ∙ ap (λ b. cond b (Some x) (object_in n xs)) is)

    by : length (keep p xs) ≡ length (keep (other p n) xs) + one (test p (object_in n xs)) → (b : Bool) → nat_eq x.number n ≡ b → length (keep p (x ∷ xs)) ≡ length (keep (other p n) (x ∷ xs)) + one (test p (object_in n (x ∷ xs)))
    by ih true is =
        let none : object_in n xs ≡ None = none_below (x.number + 1) n xs rise.1 (let same = eqb-true x.number n is in omega (arith, same)) in
        let rest : one (test p (object_in n xs)) ≡ 0 = ap (λ o. one (test p o)) none in
        let this : one (test p (object_in n (x ∷ xs))) ≡ one (p x) = ap one (found true is) in
        let out : one (other p n x) ≡ 0 = ap (λ b. one (p x && not b)) is ∙ ap one (right_false (p x)) in
        let a = length_more p x xs in
        let b = length_more (other p n) x xs in
        omega (arith, ih, rest, this, out, a, b)
    by ih false is =
        let this : one (test p (object_in n (x ∷ xs))) ≡ one (test p (object_in n xs)) = ap one (found false is) in
        let still : one (other p n x) ≡ one (p x) = ap (λ b. one (p x && not b)) is ∙ ap one (right_true (p x)) in
        let a = length_more p x xs in
        let b = length_more (other p n) x xs in
        omega (arith, ih, this, still, a, b)

-- all but one object stay
abbrev pub AreSameBut : ℕ → List Object → List Object → Type 0
AreSameBut n os os' = (k : ℕ) → nat_eq n k ≡ false → object_in k os' ≡ object_in k os

others_same : (p : Object → Bool) (n : ℕ) (os os' : List Object) → Rise 0 os → Rise 0 os' → AreSameBut n os os' → keep (other p n) os' ≡ keep (other p n) os
others_same p n os os' rise rise' same =
    let q = other p n in
    same_objects 0 (keep q os') (keep q os) (rise_keep q 0 os' rise') (rise_keep q 0 os rise) (λ k. in_keep q 0 k os' rise' ∙ (by k (nat_eq n k) refl ∙ sym (in_keep q 0 k os rise)))
  where
    gone : (l : List Object) (k : ℕ) → nat_eq n k ≡ true → (o : Option Object) → object_in k l ≡ o → kept_one (other p n) o ≡ None
    gone l k is None there = refl
    gone l k is (Some z) there =
        let number = number_found k l z there in
        let own : nat_eq z.number n ≡ true = grind (arith, nat_tests, is, number) in
        ap (λ b. cond (p z && not b) (Some z) None) own ∙ ap (λ b. cond b (Some z) None) (right_false (p z))

    by : (k : ℕ) (b : Bool) → nat_eq n k ≡ b → kept_one (other p n) (object_in k os') ≡ kept_one (other p n) (object_in k os)
    by k false is = ap (kept_one (other p n)) (same k is)
    by k true is = gone os' k is (object_in k os') refl ∙ sym (gone os k is (object_in k os) refl)

count_moved : (p : Object → Bool) (n : ℕ) (os os' : List Object) → Rise 0 os → Rise 0 os' → AreSameBut n os os' → length (keep p os') + one (test p (object_in n os)) ≡ length (keep p os) + one (test p (object_in n os'))
count_moved p n os os' rise rise' same =
    let before = own_count p n 0 os rise in
    let after = own_count p n 0 os' rise' in
    let others : length (keep (other p n) os') ≡ length (keep (other p n) os) = ap (λ (l : List Object). length l) (others_same p n os os' rise rise' same) in
    omega (arith, before, after, others)

-- none is kept where none passes
pub none_kept : (p : Object → Bool) (os : List Object) → Rise 0 os → ((k : ℕ) → test p (object_in k os) ≡ false) → keep p os ≡ []
none_kept p os rise none = same_objects 0 (keep p os) [] (rise_keep p 0 os rise) tt (λ k. in_keep p 0 k os rise ∙ (by (object_in k os) (none k) ∙ sym (in_none k)))
  where
    by : (o : Option Object) → test p o ≡ false → kept_one p o ≡ None
    by None is = refl
    by (Some z) is = ap (λ b. cond b (Some z) None) is

-- What groups see ------------------------------------------------------------------------------------------

-- groups see nothing of the values of cells
pub alike_blank : (needs : List Need) (x y : Option Object) → x ≡ option_map blank y → AreAlike needs x y
alike_blank needs x y is g = (by (is_open needs g) (λ o. refl), by (is_waiting needs g) (λ o. refl))
  where
    seen : (p : Object → Bool) → ((o : Object) → p (blank o) ≡ p o) → (o : Option Object) → test p (option_map blank o) ≡ test p o
    seen p same None = refl
    seen p same (Some o) = same o

    by : (p : Object → Bool) → ((o : Object) → p (blank o) ≡ p o) → test p x ≡ test p y
    by p same = ap (test p) is ∙ seen p same y

pub alike_found : (needs : List Need) (n : ℕ) (a : Option Allocation) (os : List Object) → IsKnown n a os → AreAlike needs (option_map (known n) a) (object_in n os)
alike_found needs n a os is = alike_blank needs (option_map (known n) a) (object_in n os) is

blank_step : (z : Step) (o : Object) → with_step z (blank o) ≡ blank (with_step z o)
unfolding opened_objects
blank_step StepOf.Begin o = refl
blank_step StepOf.Join o = refl
blank_step StepOf.End o = by (is_untouched o.state)
  where
    by : (b : Bool) → cond b (blank o) (record (blank o) { state = Finalized }) ≡ blank (cond b o (record o { state = Finalized }))
    by true = refl
    by false = refl

pub alike_stepped : (needs : List Need) (n : ℕ) (z : Step) (a : Allocation) (os : List Object) → IsKnown n (Some a) os → AreAlike needs (Some (with_step z (known n a))) (option_map (with_step z) (object_in n os))
alike_stepped needs n z a os is = alike_blank needs (Some (with_step z (known n a))) (option_map (with_step z) (object_in n os)) (ap (option_map (with_step z)) is ∙ by (object_in n os))
  where
    by : (o : Option Object) → option_map (with_step z) (option_map blank o) ≡ option_map blank (option_map (with_step z) o)
    by None = refl
    by (Some x) = ap (λ (o : Object). Some o) (blank_step z x)

-- Groups follow --------------------------------------------------------------------------------------------

pub grouped_moved : (needs : List Need) (os os' : List Object) (n : ℕ) (x y : Option Object) (s t : Groups) → Rise 0 os → Rise 0 os' → AreSameBut n os os' → AreAlike needs x (object_in n os) → AreAlike needs y (object_in n os') → Moves needs n x y s t → AreGrouped needs os s → AreGrouped needs os' t
grouped_moved needs os os' n x y s t rise rise' same before after m h = record {
  members = λ g k. m.members g k ∙ by g k (nat_eq n k) refl;
  entered = m.entered;
  counts = λ g.
      let moved = m.counts g in
      let had = h.counts g in
      let all = count_moved (is_waiting needs g) n os os' rise rise' same in
      let old : one (test (is_waiting needs g) x) ≡ one (test (is_waiting needs g) (object_in n os)) = ap one (before g).1 in
      let new : one (test (is_waiting needs g) y) ≡ one (test (is_waiting needs g) (object_in n os')) = ap one (after g).1 in
      omega (arith, moved, had, all, old, new);
}
  where
    by : (g : Group) (k : ℕ) (b : Bool) → nat_eq n k ≡ b → cond b (test (is_open needs g) y) (is_in g k s) ≡ passes (is_open needs g) k os'
    by g k true is = (after g).0 ∙ ap (λ j. passes (is_open needs g) j os') (eqb-true n k is)
    by g k false is = h.members g k ∙ ap (test (is_open needs g)) (sym (same k is))

-- groups that are the same have the same objects
pub grouped_same : (needs : List Need) (os : List Object) (s t : Groups) → IsSame s t → AreGrouped needs os s → AreGrouped needs os t
grouped_same needs os s t same h = record {
  members = λ g n. same.0 g n ∙ h.members g n;
  entered = λ g n is. same.1.1 g (h.entered g n (sym (same.0 g n) ∙ is));
  counts = λ g. same.1.0 g ∙ h.counts g;
}

-- the groups see no change
pub grouped_alike : (needs : List Need) (os os' : List Object) (n : ℕ) (s : Groups) → Rise 0 os → Rise 0 os' → AreSameBut n os os' → AreAlike needs (object_in n os) (object_in n os') → AreGrouped needs os s → AreGrouped needs os' s
grouped_alike needs os os' n s rise rise' same alike h = grouped_moved needs os os' n (object_in n os) (object_in n os') s s rise rise' same (λ g. (refl, refl)) (λ g. (refl, refl)) (record {
  members = λ g k. by g k (nat_eq n k) refl;
  entered = h.entered;
  counts = λ g. ap (λ b. count g s + one b) (alike g).1;
}) h
  where
    by : (g : Group) (k : ℕ) (b : Bool) → nat_eq n k ≡ b → is_in g k s ≡ cond b (test (is_open needs g) (object_in n os')) (is_in g k s)
    by g k false is = refl
    by g k true is = ap (λ j. is_in g j s) (sym (eqb-true n k is)) ∙ (h.members g n ∙ (alike g).0)

-- what groups know of an object
pub has_object : (needs : List Need) (os : List Object) (n : ℕ) (x : Object) (s : Groups) → Rise 0 os → length os ≤ 2 ^ 63 → AreAlike needs (Some x) (object_in n os) → AreGrouped needs os s → Has needs n x s
has_object needs os n x s rise few alike h = record {
  there = λ g. h.members g n ∙ sym (alike g).0;
  entered = h.entered;
  least = λ g. let all = all_of g in let own = own_of g in let had = h.counts g in omega (arith, all, own, had);
  only = λ g alone. let all = all_of g in let own = own_of g in let had = h.counts g in let rest = none g alone in omega (arith, all, own, had, rest);
  few = λ g. let had = h.counts g in let less = no_more (is_waiting needs g) os in omega (arith, had, less, few);
}
  where
    all_of : (g : Group) → length (keep (is_waiting needs g) os) ≡ length (keep (other (is_waiting needs g) n) os) + one (test (is_waiting needs g) (object_in n os))
    all_of g = own_count (is_waiting needs g) n 0 os rise

    own_of : (g : Group) → one (is_waiting needs g x) ≡ one (test (is_waiting needs g) (object_in n os))
    own_of g = ap one (alike g).1

    not_open : (g : Group) (z : Object) → is_open needs g z ≡ false → other (is_waiting needs g) n z ≡ false
    not_open g z is = ap (λ b. (z.joined && b) && not (nat_eq z.number n)) is ∙ ap (λ b. b && not (nat_eq z.number n)) (right_false z.joined)

    outside : (g : Group) → ((k : ℕ) → nat_eq n k ≡ false → is_in g k s ≡ false) → (k : ℕ) (b : Bool) → nat_eq n k ≡ b → (o : Option Object) → object_in k os ≡ o → test (other (is_waiting needs g) n) o ≡ false
    outside g alone k b which None there = refl
    outside g alone k true which (Some z) there =
        let number = number_found k os z there in
        let own : nat_eq z.number n ≡ true = grind (arith, nat_tests, which, number) in
        ap (λ b. is_waiting needs g z && not b) own ∙ right_false (is_waiting needs g z)
    outside g alone k false which (Some z) there = not_open g z (ap (test (is_open needs g)) (sym there) ∙ (sym (h.members g k) ∙ alone k which))

    none : (g : Group) → ((k : ℕ) → nat_eq n k ≡ false → is_in g k s ≡ false) → length (keep (other (is_waiting needs g) n) os) ≡ 0
    none g alone = ap (λ (l : List Object). length l) (none_kept (other (is_waiting needs g) n) os rise (λ k. outside g alone k (nat_eq n k) refl (object_in k os) refl))
