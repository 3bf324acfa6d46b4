-- Cells of an object, one after another: they are read, saved and written.
use Rattle.std.proofs.Common.{◌≡◌, ◌≢◌, ◌∙◌, ℕ, zero, suc, ◌+◌, ◌<◌, ◌≤◌, List, [], ◌∷◌, ◌++◌, Bool, true, false, refl, sym, ap, arith, drop, length}
use Rattle.std.specs.Prelude.{nat_eq, slice_get, slice_index_or, slice_set}
use Rattle.std.proofs.lemmas.Bool.Decides.{nat_tests}
use Rattle.ctl_meaning.specs.World.{Object}
use Rattle.ctl_meaning.specs.Lists.{item_or, opened_lists}
use Rattle.ctl_meaning.specs.Names.{scalar_of, opened_names}
use Rattle.ctl_meaning.specs.Objects.{change_in, first_cells, overwritten, with_cells, opened_objects}
use Rattle.ctl_storage.proofs.Rising.{change_none}

-- Places in lists ----------------------------------------------------------------------------------------

pub eq_same : (a b : ℕ) → a ≡ b → nat_eq a b ≡ true
eq_same a b same = grind (arith, nat_tests)

pub eq_differs : (a b : ℕ) → a ≢ b → nat_eq a b ≡ false
eq_differs a b differs = grind (arith, nat_tests)

pub length_set : {X : Type 0} (xs : List X) (i : ℕ) (v : X) → length (slice_set xs i v) ≡ length xs
length_set [] i v = refl
length_set (x ∷ xs) zero v = refl
length_set (x ∷ xs) (suc i) v = ap (λ n. suc n) (length_set xs i v)

pub item_dropped : (xs : List ℕ) (i : ℕ) → i < length xs → drop i xs ≡ slice_index_or xs i 0 ∷ drop (i + 1) xs
item_dropped xs i less = by xs i less ∙ ap (λ n. slice_index_or xs i 0 ∷ drop n xs) (let next : suc i ≡ i + 1 = omega arith in next)
  where
    by : (ys : List ℕ) (k : ℕ) → k < length ys → drop k ys ≡ slice_index_or ys k 0 ∷ drop (suc k) ys
    by [] k h = absurd (omega (arith, h))
    by (y ∷ ys) zero h = refl
    by (y ∷ ys) (suc k) h = by ys k (omega (arith, h))

pub all_dropped : (xs : List ℕ) (i : ℕ) → length xs ≤ i → drop i xs ≡ []
all_dropped [] zero h = refl
all_dropped [] (suc i) h = refl
all_dropped (x ∷ xs) zero h = absurd (omega (arith, h))
all_dropped (x ∷ xs) (suc i) h = all_dropped xs i (omega (arith, h))

pub cell_dropped : (k i at : ℕ) (xs : List ℕ) → at ≡ k + i → slice_get (drop k xs) i ≡ slice_get xs at
cell_dropped zero i at xs e = let f : i ≡ at = omega (arith, e) in ap (λ n. slice_get xs n) f
cell_dropped (suc k) i at [] e = refl
cell_dropped (suc k) i zero (x ∷ xs) e = absurd (omega (arith, e))
cell_dropped (suc k) i (suc at) (x ∷ xs) e = cell_dropped k i at xs (omega (arith, e))

-- Reading -------------------------------------------------------------------------------------------------

pub scalar_first : (xs : List ℕ) → scalar_of (first_cells 1 xs) ≡ item_or 0 (slice_get xs 0)
unfolding opened_names opened_objects opened_lists
scalar_first [] = refl
scalar_first (x ∷ xs) = refl

pub none_dropped : (n : ℕ) → drop {A = ℕ} n [] ≡ []
none_dropped zero = refl
none_dropped (suc n) = refl

pub first_more : (n : ℕ) (xs : List ℕ) → first_cells (suc n) xs ≡ first_cells n xs ++ scalar_of (first_cells 1 (drop n xs)) ∷ []
unfolding opened_objects opened_names opened_lists
first_more zero [] = refl
first_more zero (x ∷ xs) = refl
first_more (suc n) [] = ap (λ (l : List ℕ). 0 ∷ l) (first_more n [] ∙ ap (λ (l : List ℕ). first_cells n [] ++ scalar_of (first_cells 1 l) ∷ []) (none_dropped n))
first_more (suc n) (x ∷ xs) = ap (λ (l : List ℕ). x ∷ l) (first_more n xs)

pub drop_twice : (a b c : ℕ) (xs : List ℕ) → c ≡ a + b → drop b (drop a xs) ≡ drop c xs
drop_twice zero b c xs e = let same : b ≡ c = omega (arith, e) in ap (λ n. drop n xs) same
drop_twice (suc a) b zero xs e = absurd (omega (arith, e))
drop_twice (suc a) b (suc c) [] e = none_dropped b
drop_twice (suc a) b (suc c) (x ∷ xs) e = drop_twice a b c xs (omega (arith, e))

-- Writing -------------------------------------------------------------------------------------------------

pub overwritten_is : (offset x : ℕ) (xs : List ℕ) → overwritten offset (x ∷ []) xs ≡ slice_set xs offset x
unfolding opened_objects
overwritten_is zero x [] = refl
overwritten_is zero x (y ∷ ys) = refl
overwritten_is (suc offset) x [] = refl
overwritten_is (suc offset) x (y ∷ ys) = ap (λ (l : List ℕ). y ∷ l) (overwritten_is offset x ys)

-- one cell, and those behind it
pub cells_more : (offset x : ℕ) (v cells : List ℕ) → overwritten (suc offset) v (overwritten offset (x ∷ []) cells) ≡ overwritten offset (x ∷ v) cells
unfolding opened_objects
cells_more zero x v [] = refl
cells_more zero x v (y ∷ ys) = refl
cells_more (suc offset) x v [] = refl
cells_more (suc offset) x v (y ∷ ys) = ap (λ (l : List ℕ). y ∷ l) (cells_more offset x v ys)

pub no_cells : (offset : ℕ) (cells : List ℕ) → overwritten offset [] cells ≡ cells
unfolding opened_objects
no_cells zero cells = refl
no_cells (suc offset) [] = refl
no_cells (suc offset) (y ∷ ys) = ap (λ (l : List ℕ). y ∷ l) (no_cells offset ys)

pub object_more : (offset x : ℕ) (v : List ℕ) (o : Object) → with_cells (offset + 1) v (with_cells offset (x ∷ []) o) ≡ with_cells offset (x ∷ v) o
unfolding opened_objects
object_more offset x v o =
    let next : offset + 1 ≡ suc offset = omega arith in
    ap (λ (l : List ℕ). record o { cells = l }) (ap (λ n. overwritten n v (overwritten offset (x ∷ []) o.cells)) next ∙ cells_more offset x v o.cells)

pub same_object : (offset : ℕ) (o : Object) → with_cells offset [] o ≡ o
unfolding opened_objects
same_object offset o = ap (λ (l : List ℕ). record o { cells = l }) (no_cells offset o.cells)

pub same_number : (offset : ℕ) (v : List ℕ) (o : Object) → (with_cells offset v o).number ≡ o.number
unfolding opened_objects
same_number offset v o = refl

change_here : (f : Object → Object) (o : Object) (n : ℕ) (os : List Object) → o.number ≡ n → change_in n f (o ∷ os) ≡ f o ∷ change_in n f os
unfolding opened_lists opened_objects
change_here f o n os e = rw (eq_same o.number n e) refl

change_there : (f : Object → Object) (o : Object) (n : ℕ) (os : List Object) → o.number ≢ n → change_in n f (o ∷ os) ≡ o ∷ change_in n f os
unfolding opened_lists opened_objects
change_there f o n os e = rw (eq_differs o.number n e) refl

pub change_twice : (n : ℕ) (f g h : Object → Object) → ((o : Object) → (g o).number ≡ o.number) → ((o : Object) → f (g o) ≡ h o) → (os : List Object) → change_in n f (change_in n g os) ≡ change_in n h os
change_twice n f g h same both [] = ap (λ (l : List Object). change_in n f l) (change_none n g) ∙ (change_none n f ∙ sym (change_none n h))
change_twice n f g h same both (o ∷ os) = by (change_twice n f g h same both os) (nat_eq o.number n) refl
  where
    by : change_in n f (change_in n g os) ≡ change_in n h os → (b : Bool) → nat_eq o.number n ≡ b → change_in n f (change_in n g (o ∷ os)) ≡ change_in n h (o ∷ os)
    by others true e =
        let is : o.number ≡ n = grind (arith, nat_tests, e) in
        ap (λ (l : List Object). change_in n f l) (change_here g o n os is)
        ∙ (change_here f (g o) n (change_in n g os) (same o ∙ is)
        ∙ (ap (λ (x : Object). x ∷ change_in n f (change_in n g os)) (both o)
        ∙ (ap (λ (l : List Object). h o ∷ l) others
        ∙ sym (change_here h o n os is))))
    by others false e =
        let differs : o.number ≢ n = λ is. absurd (grind (arith, nat_tests, e, is)) in
        ap (λ (l : List Object). change_in n f l) (change_there g o n os differs)
        ∙ (change_there f o n (change_in n g os) differs
        ∙ (ap (λ (l : List Object). o ∷ l) others
        ∙ sym (change_there h o n os differs)))

pub change_nothing : (n : ℕ) (f : Object → Object) → ((o : Object) → f o ≡ o) → (os : List Object) → change_in n f os ≡ os
change_nothing n f same [] = change_none n f
change_nothing n f same (o ∷ os) = by (change_nothing n f same os) (nat_eq o.number n) refl
  where
    by : change_in n f os ≡ os → (b : Bool) → nat_eq o.number n ≡ b → change_in n f (o ∷ os) ≡ o ∷ os
    by others true e =
        let is : o.number ≡ n = grind (arith, nat_tests, e) in
        change_here f o n os is ∙ (ap (λ (x : Object). x ∷ change_in n f os) (same o) ∙ ap (λ (l : List Object). o ∷ l) others)
    by others false e =
        let differs : o.number ≢ n = λ is. absurd (grind (arith, nat_tests, e, is)) in
        change_there f o n os differs ∙ ap (λ (l : List Object). o ∷ l) others

pub written_more : (n offset x : ℕ) (v : List ℕ) (os : List Object) → change_in n (with_cells (offset + 1) v) (change_in n (with_cells offset (x ∷ [])) os) ≡ change_in n (with_cells offset (x ∷ v)) os
written_more n offset x v os = change_twice n (with_cells (offset + 1) v) (with_cells offset (x ∷ [])) (with_cells offset (x ∷ v)) (same_number offset (x ∷ [])) (object_more offset x v) os

pub written_nothing : (n offset : ℕ) (os : List Object) → change_in n (with_cells offset []) os ≡ os
written_nothing n offset os = change_nothing n (with_cells offset []) (same_object offset) os
