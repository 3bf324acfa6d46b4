-- A stretch of a list, whose first or last item is taken out.
use Rattle.std.proofs.Common.{◌≡◌, ℕ, zero, suc, ◌+◌, ◌-◌, ◌<◌, ◌≤◌, List, [], ◌∷◌, Some, length, refl, ap, arith, drop, take}
use Rattle.std.specs.Prelude.{slice_get}
use Rattle.ctl_meaning.specs.Lists.{pull_item, pull_rest, opened_lists}

-- how long a front is
pub length_front : {X : Type 0} (xs : List X) (count : ℕ) → count ≤ length xs → length (take count xs) ≡ count
length_front xs zero h = refl
length_front [] (suc count) h = absurd (omega (arith, h))
length_front (x ∷ xs) (suc count) h = ap (λ n. suc n) (length_front xs count (omega (arith, h)))

pub length_behind : {X : Type 0} (xs : List X) (first : ℕ) → length (drop first xs) ≡ length xs - first
length_behind xs zero = omega arith
length_behind [] (suc first) = omega arith
length_behind (x ∷ xs) (suc first) = let ih = length_behind xs first in omega (arith, ih)

-- an item behind a place
pub get_behind : {X : Type 0} (xs : List X) (first i at : ℕ) → at ≡ first + i → slice_get (drop first xs) i ≡ slice_get xs at
get_behind xs zero i at e = let same : i ≡ at = omega (arith, e) in ap (λ n. slice_get xs n) same
get_behind [] (suc first) i at e = refl
get_behind (x ∷ xs) (suc first) i zero e = absurd (omega (arith, e))
get_behind (x ∷ xs) (suc first) i (suc at) e = get_behind xs first i at (omega (arith, e))

-- The first -------------------------------------------------------------------------------------

pub first_item : {X : Type 0} (xs : List X) (count : ℕ) (d : X) → 0 < length xs → slice_get xs 0 ≡ Some (pull_item d 0 (take (suc count) xs))
unfolding opened_lists
first_item [] count d some = absurd (omega (arith, some))
first_item (x ∷ xs) count d some = refl

pub first_rest : {X : Type 0} (xs : List X) (first count : ℕ) → pull_rest 0 (take (suc count) (drop first xs)) ≡ take count (drop (suc first) xs)
unfolding opened_lists
first_rest [] zero zero = refl
first_rest [] zero (suc count) = refl
first_rest [] (suc first) zero = refl
first_rest [] (suc first) (suc count) = refl
first_rest (x ∷ xs) zero count = refl
first_rest (x ∷ xs) (suc first) count = first_rest xs first count

-- The last --------------------------------------------------------------------------------------

pub last_item : {X : Type 0} (xs : List X) (count : ℕ) (d : X) → count < length xs → slice_get xs count ≡ Some (pull_item d count (take (suc count) xs))
unfolding opened_lists
last_item [] count d h = absurd (omega (arith, h))
last_item (x ∷ xs) zero d h = refl
last_item (x ∷ xs) (suc count) d h = last_item xs count d (omega (arith, h))

pub last_rest : {X : Type 0} (xs : List X) (count : ℕ) → pull_rest count (take (suc count) xs) ≡ take count xs
unfolding opened_lists
last_rest [] zero = refl
last_rest [] (suc count) = refl
last_rest (x ∷ xs) zero = refl
last_rest (x ∷ xs) (suc count) = ap (λ l. x ∷ l) (last_rest xs count)
