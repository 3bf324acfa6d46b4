-- A list of three, by its elements.
use Rattle.std.proofs.Common.{arith, ◌≡◌, sym, ◌≤◌, ◌<◌, List, [], ◌∷◌, length, get_or}

pub three_of : {A : Type 0} (xs : List A) (x y z : A) → 3 ≤ length xs → length xs < 4 → x ≡ get_or xs 0 x → y ≡ get_or xs 1 y → z ≡ get_or xs 2 z → xs ≡ x ∷ y ∷ z ∷ []
three_of [] x y z least most first second third = absurd (omega (arith, least))
three_of (a ∷ []) x y z least most first second third = absurd (omega (arith, least))
three_of (a ∷ b ∷ []) x y z least most first second third = absurd (omega (arith, least))
three_of (a ∷ b ∷ c ∷ []) x y z least most first second third = λ j. sym first j ∷ sym second j ∷ sym third j ∷ []
three_of (a ∷ b ∷ c ∷ d ∷ xs) x y z least most first second third = absurd (omega (arith, most))
