-- Rows that are put together.
use Rattle.std.proofs.Common.{◌≡◌, List, [], ◌∷◌, ◌++◌}
use Rattle.std.specs.Prelude.{reverse}
use mathlib.Core.List.{reverse-append, reverse-reverse}

-- what stood last stands first in a row that is turned round
pub turned_last : {A : Type 0} (xs : List A) (x : A) → reverse (xs ++ x ∷ []) ≡ x ∷ reverse xs
turned_last xs x = reverse-append xs (x ∷ [])

-- a row that is turned round twice is as it was
pub turned_twice : {A : Type 0} (xs : List A) → reverse (reverse xs) ≡ xs
turned_twice xs = reverse-reverse xs
