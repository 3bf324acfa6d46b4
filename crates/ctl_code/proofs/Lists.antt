-- The rest of a list.
use Rattle.std.specs.Prelude.{slice_get}
use Rattle.std.proofs.Common.{◌≡◌, ℕ, zero, suc, ◌+◌, ◌≤◌, List, [], ◌∷◌, Some, None, drop, refl, arith}

pub drop_step : {X : Type 0} (n : ℕ) (xs : List X) (y : X) (ys : List X) → drop n xs ≡ y ∷ ys → drop (n + 1) xs ≡ ys
drop_step zero [] y ys e = absurd (cc e)
drop_step zero (x ∷ xs) y ys e = cc
drop_step (suc n) [] y ys e = absurd (cc e)
drop_step (suc n) (x ∷ xs) y ys e = let same : suc n + 1 ≡ suc (n + 1) = omega arith in rw same (drop_step n xs y ys e)

pub drop_rest : {X : Type 0} (n m : ℕ) (xs : List X) → drop n xs ≡ [] → n ≤ m → drop m xs ≡ []
drop_rest n zero [] e le = refl
drop_rest n (suc m) [] e le = refl
drop_rest zero m (x ∷ xs) e le = absurd (cc e)
drop_rest (suc n) zero (x ∷ xs) e le = absurd (omega arith)
drop_rest (suc n) (suc m) (x ∷ xs) e le = drop_rest n m xs e (omega arith)

pub get_by_drop : {X : Type 0} (n : ℕ) (xs : List X) (y : X) (ys : List X) → drop n xs ≡ y ∷ ys → slice_get xs n ≡ Some y
get_by_drop zero [] y ys e = absurd (cc e)
get_by_drop zero (x ∷ xs) y ys e = cc
get_by_drop (suc n) [] y ys e = absurd (cc e)
get_by_drop (suc n) (x ∷ xs) y ys e = get_by_drop n xs y ys e

pub none_by_drop : {X : Type 0} (n : ℕ) (xs : List X) → drop n xs ≡ [] → slice_get xs n ≡ None
none_by_drop n [] e = refl
none_by_drop zero (x ∷ xs) e = absurd (cc e)
none_by_drop (suc n) (x ∷ xs) e = none_by_drop n xs e

pub split_at : {X : Type 0} (n : ℕ) (xs : List X) (x : X) → slice_get xs n ≡ Some x → drop n xs ≡ x ∷ drop (n + 1) xs
split_at n [] x e = absurd (cc e)
split_at zero (y ∷ ys) x e = cc
split_at (suc n) (y ∷ ys) x e = let same : suc n + 1 ≡ suc (n + 1) = omega arith in rw same (split_at n ys x e)

pub empty_at_first : {X : Type 0} (xs : List X) → slice_get xs 0 ≡ None → xs ≡ []
empty_at_first [] e = refl
empty_at_first (x ∷ xs) e = absurd (cc e)
