-- Changing each element from one on, one after the other.
use Rattle.std.proofs.Common.{arith, ap, refl, ◌≡◌, ℕ, zero, suc, ◌≤◌, List, [], ◌∷◌, length, Option, Some, None, slice_get}
use Rattle.ctl_draft.specs.Freezing.{changed, changed_from, changed_each}

-- an element behind the first one is one of the rest
pub changed_rest : {A : Type 0} (f : A → A) (found : Option A) (n : ℕ) (x : A) (xs : List A) → changed_from f found (suc n) (x ∷ xs) ≡ x ∷ changed_from f found n xs
changed_rest f None n x xs = refl
changed_rest f (Some y) n x xs = refl

-- the first of them is changed, and then those behind it
pub changed_next : {A : Type 0} (f : A → A) (n : ℕ) (xs : List A) → changed_each f n xs ≡ changed_each f (suc n) (changed f n xs)
changed_next f n [] = empty f n (slice_get [] n)
  where
    empty : {A : Type 0} (f : A → A) (n : ℕ) (found : Option A) → [] ≡ changed_each f (suc n) (changed_from f found n [])
    empty f n None = refl
    empty f n (Some y) = refl
changed_next f zero (x ∷ xs) = refl
changed_next f (suc n) (x ∷ xs) = rw (changed_rest f (slice_get xs n) n x xs) (ap (λ ys. x ∷ ys) (changed_next f n xs))

-- none is left behind the last
pub changed_none : {A : Type 0} (f : A → A) (n : ℕ) (xs : List A) → length xs ≤ n → changed_each f n xs ≡ xs
changed_none f n [] within = refl
changed_none f zero (x ∷ xs) within = absurd (omega (arith, within))
changed_none f (suc n) (x ∷ xs) within = ap (λ ys. x ∷ ys) (changed_none f n xs (omega (arith, within)))

unchanged_length : {A : Type 0} (f : A → A) (n : ℕ) (found : Option A) → length (changed_from f found n []) ≡ 0
unchanged_length f n None = refl
unchanged_length f n (Some y) = refl

pub changed_length : {A : Type 0} (f : A → A) (n : ℕ) (xs : List A) → length (changed f n xs) ≡ length xs
changed_length f n [] = unchanged_length f n (slice_get [] n)
changed_length f zero (x ∷ xs) = refl
changed_length f (suc n) (x ∷ xs) = rw (changed_rest f (slice_get xs n) n x xs) (ap suc (changed_length f n xs))
