-- The objects of groups that are still to be finalized: the next group, and the first and the last of one.
use Rattle.std.proofs.Common.{◌≡◌, ◌∙◌, ℕ, ◌+◌, ◌-◌, ◌<◌, ◌≤◌, ◌^◌, List, Option, Some, None, Bool, true, false, cond, refl, sym, ap, arith, length}
use Rattle.std.specs.Prelude.{nat_eq, IfSome, ◌&&◌}
use Rattle.std.specs.Option.{option_map_or, option_or}
use Rattle.std.proofs.lemmas.Bool.Decides.{nat_tests}
use Rattle.ctl_meaning.specs.World.{Declared, Allocated, Object, Origin}
use Rattle.ctl_meaning.specs.Lists.{keep}
use Rattle.ctl_meaning.specs.Objects.{is_untouched, object_in}
use Rattle.ctl_groups.specs.declared.groups.Group.{Group}
use Rattle.ctl_groups.specs.declared.groups.Start.{Start}
use Rattle.ctl_groups.specs.declared.groups.Waiting.{Waiting}
use Rattle.ctl_groups.specs.declared.needs.Need.{Need}
use Rattle.ctl_groups.specs.Groups.{IsNextBy, IsNextGroup, count, is_allocated, group_by, is_open, is_same, is_waiting, test}
use Rattle.ctl_groups.specs.Members.{IsGreatest, IsLeast, passes}
use Rattle.ctl_objects.specs.Order.{AreSplit, IsDeclared, both}
use Rattle.ctl_storage.specs.Order.{AreBelow}
use Rattle.ctl_objects.proofs.Both.{found_both, rise_both}
use Rattle.ctl_objects.proofs.Filed.{passing_below}
use Rattle.ctl_groups.proofs.Grouped.{both_true, never}
use Rattle.ctl_storage.proofs.Kept.{no_more}
use Rattle.ctl_storage.proofs.Rising.{in_keep, kept_one, rise_keep, same_objects}

-- Seen another way -----------------------------------------------------------------------------------------

pub least_alike : (P Q : ℕ → Type 0) (r : Option ℕ) → ((n : ℕ) → P n → Q n) → ((n : ℕ) → Q n → P n) → IsLeast P r → IsLeast Q r
least_alike P Q None to from h = λ n q. h n (from n q)
least_alike P Q (Some m) to from h = (to m h.0, λ n q. h.1 n (from n q))

pub greatest_alike : (P Q : ℕ → Type 0) (r : Option ℕ) → ((n : ℕ) → P n → Q n) → ((n : ℕ) → Q n → P n) → IsGreatest P r → IsGreatest Q r
greatest_alike P Q None to from h = λ n q. h n (from n q)
greatest_alike P Q (Some m) to from h = (to m h.0, λ n q. h.1 n (from n q))

pub next_alike : (has has' : Group → ℕ → Bool) (many many' : Group → ℕ) (start : Start) (last : ℕ) (r : Option Waiting) → ((g : Group) (n : ℕ) → has g n ≡ has' g n) → ((g : Group) → many g ≡ many' g) → IsNextBy has many start last r → IsNextBy has' many' start last r
next_alike has has' many many' start last None same count h = λ g n from to. sym (same g n) ∙ h g n from to
next_alike has has' many many' start last (Some w) same count h =
    (h.0, h.1, (h.2.0, sym (same w.group h.2.0) ∙ h.2.1), h.3 ∙ count w.group, λ g n from before. sym (same g n) ∙ h.4 g n from before)

-- One after another ----------------------------------------------------------------------------------------

abbrev pub DoesWait : List Need → Group → List Object → ℕ → Type 0
DoesWait needs g os n = passes (is_waiting needs g) n os ≡ true

waits_open : (needs : List Need) (g : Group) (n : ℕ) (os : List Object) → passes (is_waiting needs g) n os ≡ (passes (λ o. o.joined) n os && passes (is_open needs g) n os)
waits_open needs g n os = by (object_in n os)
  where
    by : (o : Option Object) → test (is_waiting needs g) o ≡ (test (λ x. x.joined) o && test (is_open needs g) o)
    by None = refl
    by (Some x) = refl

parts : (needs : List Need) (g : Group) (n : ℕ) (os : List Object) → DoesWait needs g os n → (passes (λ o. o.joined) n os ≡ true) × (passes (is_open needs g) n os ≡ true)
parts needs g n os is = both_true (passes (λ o. o.joined) n os) (passes (is_open needs g) n os) (sym (waits_open needs g n os) ∙ is)

-- none waits before a number
abbrev pub NoneBefore : List Need → Group → List Object → ℕ → Type 0
NoneBefore needs g os start = (n : ℕ) → DoesWait needs g os n → start ≤ n

abbrev pub NoneBehind : List Need → Group → List Object → ℕ → Type 0
NoneBehind needs g os end = (n : ℕ) → DoesWait needs g os n → n ≤ end

pub none_before : (needs : List Need) (g : Group) (os : List Object) (start m : ℕ) → NoneBefore needs g os start → IsLeast (λ n. (start ≤ n) × (passes (is_open needs g) n os ≡ true)) (Some m) → passes (λ o. o.joined) m os ≡ false → NoneBefore needs g os (m + 1)
none_before needs g os start m none l apart n q = by (nat_eq m n) refl
  where
    low : m ≤ n
    low = l.1 n (none n q, (parts needs g n os q).1)

    by : (b : Bool) → nat_eq m n ≡ b → m + 1 ≤ n
    by false differs = let less = low in grind (arith, nat_tests, differs, less)
    by true same =
        let here : n ≡ m = grind (arith, nat_tests, same) in
        absurd (never (passes (λ o. o.joined) m os) (ap (λ k. passes (λ o. o.joined) k os) (sym here) ∙ (parts needs g n os q).0) apart)

pub none_over : (needs : List Need) (g : Group) (os : List Object) (start : ℕ) → AreBelow (2 ^ 64) os → NoneBefore needs g os start → 2 ^ 64 ≤ start → IsLeast (DoesWait needs g os) None
none_over needs g os start below none high = λ n q. by n (passing_below (2 ^ 64) n (is_waiting needs g) os below q) (none n q)
  where
    by : (n : ℕ) → n < 2 ^ 64 → start ≤ n → ⊥
    by n less more = omega (arith, less, more, high)

pub none_under : (needs : List Need) (g : Group) (os : List Object) → AreBelow (2 ^ 64) os → NoneBehind needs g os (2 ^ 64 - 1)
none_under needs g os below n q = let less = passing_below (2 ^ 64) n (is_waiting needs g) os below q in omega (arith, less)

-- Among all objects ----------------------------------------------------------------------------------------

-- a test that no declared object passes
abbrev pub IsOfAllocated : (Object → Bool) → Type 0
IsOfAllocated p = (o : Object) (x : Origin) → o.origin ≡ x → IsDeclared x → p o ≡ false

fails_second : (p : Object → Bool) (ys : List Object) → IsOfAllocated p → ((n : ℕ) → IfSome (object_in n ys) (λ o. IsDeclared o.origin)) → (n : ℕ) → test p (object_in n ys) ≡ false
fails_second p ys of declared n = by (object_in n ys) (declared n)
  where
    by : (o : Option Object) → IfSome o (λ x. IsDeclared x.origin) → test p o ≡ false
    by None d = refl
    by (Some x) d = of x x.origin refl d

pub passes_both : (p : Object → Bool) (xs ys : List Object) → IsOfAllocated p → AreSplit xs ys → ((n : ℕ) → IfSome (object_in n ys) (λ o. IsDeclared o.origin)) → (n : ℕ) → passes p n xs ≡ passes p n (both xs ys)
passes_both p xs ys of split declared n = sym (ap (test p) (found_both n xs ys split) ∙ by (object_in n xs) (object_in n ys) (fails_second p ys of declared n))
  where
    by : (o q : Option Object) → test p q ≡ false → test p (option_or o q) ≡ test p o
    by (Some x) q fails = refl
    by None q fails = fails

pub kept_first : (p : Object → Bool) (xs ys : List Object) → IsOfAllocated p → AreSplit xs ys → ((n : ℕ) → IfSome (object_in n ys) (λ o. IsDeclared o.origin)) → keep p xs ≡ keep p (both xs ys)
kept_first p xs ys of split declared = same_objects 0 (keep p xs) (keep p (both xs ys)) (rise_keep p 0 xs split.first) (rise_keep p 0 (both xs ys) (rise_both xs ys split)) (λ k.
    in_keep p 0 k xs split.first ∙ (sym (ap (kept_one p) (found_both k xs ys split) ∙ by (object_in k xs) (object_in k ys) (fails_second p ys of declared k)) ∙ sym (in_keep p 0 k (both xs ys) (rise_both xs ys split))))
  where
    none : (q : Option Object) → test p q ≡ false → kept_one p q ≡ None
    none None fails = refl
    none (Some x) fails = ap (λ b. cond b (Some x) None) fails

    by : (o q : Option Object) → test p q ≡ false → kept_one p (option_or o q) ≡ kept_one p o
    by (Some x) q fails = refl
    by None q fails = none q fails

right_false : (b : Bool) → (b && false) ≡ false
right_false true = refl
right_false false = refl

open_allocated : (needs : List Need) (g : Group) → IsOfAllocated (is_open needs g)
open_allocated needs g o (Declared m) is d = ap (λ x. is_untouched o.state && test_group (group_by needs x o.ty)) is ∙ right_false (is_untouched o.state)
  where
    test_group : Option Group → Bool
    test_group r = option_map_or (λ h. is_same h g) r false
open_allocated needs g o (Allocated c p) is d = absurd d

waiting_allocated : (needs : List Need) (g : Group) → IsOfAllocated (is_waiting needs g)
waiting_allocated needs g o x is d = ap (λ b. o.joined && b) (open_allocated needs g o x is d) ∙ right_false o.joined

pub next_both : (needs : List Need) (xs ys : List Object) (start : Start) (last : ℕ) (r : Option Waiting) → AreSplit xs ys → ((n : ℕ) → IfSome (object_in n ys) (λ o. IsDeclared o.origin)) → IsNextGroup needs start last r xs → IsNextGroup needs start last r (both xs ys)
next_both needs xs ys start last r split declared h = next_alike (λ g n. passes (is_open needs g) n xs) (λ g n. passes (is_open needs g) n (both xs ys)) (λ g. length (keep (is_waiting needs g) xs)) (λ g. length (keep (is_waiting needs g) (both xs ys))) start last r
    (λ g n. passes_both (is_open needs g) xs ys (open_allocated needs g) split declared n)
    (λ g. ap (λ (l : List Object). length l) (kept_first (is_waiting needs g) xs ys (waiting_allocated needs g) split declared))
    h

pub least_both : (needs : List Need) (xs ys : List Object) (g : Group) (r : Option ℕ) → AreSplit xs ys → ((n : ℕ) → IfSome (object_in n ys) (λ o. IsDeclared o.origin)) → IsLeast (DoesWait needs g xs) r → IsLeast (DoesWait needs g (both xs ys)) r
least_both needs xs ys g r split declared h =
    let same = passes_both (is_waiting needs g) xs ys (waiting_allocated needs g) split declared in
    least_alike (DoesWait needs g xs) (DoesWait needs g (both xs ys)) r (λ n q. sym (same n) ∙ q) (λ n q. same n ∙ q) h

pub greatest_both : (needs : List Need) (xs ys : List Object) (g : Group) (r : Option ℕ) → AreSplit xs ys → ((n : ℕ) → IfSome (object_in n ys) (λ o. IsDeclared o.origin)) → IsGreatest (DoesWait needs g xs) r → IsGreatest (DoesWait needs g (both xs ys)) r
greatest_both needs xs ys g r split declared h =
    let same = passes_both (is_waiting needs g) xs ys (waiting_allocated needs g) split declared in
    greatest_alike (DoesWait needs g xs) (DoesWait needs g (both xs ys)) r (λ n q. sym (same n) ∙ q) (λ n q. same n ∙ q) h

allocated_ones : IsOfAllocated (λ o. is_allocated o.origin)
allocated_ones o (Declared m) is d = ap is_allocated is
allocated_ones o (Allocated c p) is d = absurd d

pub few_allocated : (xs ys : List Object) → length xs < 2 ^ 63 → AreSplit xs ys → ((n : ℕ) → IfSome (object_in n ys) (λ o. IsDeclared o.origin)) → length (keep (λ o. is_allocated o.origin) (both xs ys)) < 2 ^ 63
few_allocated xs ys few split declared =
    let same = ap (λ (l : List Object). length l) (kept_first (λ o. is_allocated o.origin) xs ys allocated_ones split declared) in
    let less = no_more (λ o. is_allocated o.origin) xs in
    omega (arith, same, less, few)
