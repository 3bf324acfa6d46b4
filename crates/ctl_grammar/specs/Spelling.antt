-- When two identifiers are the same.
use Rattle.std.specs.Prelude.{ℕ, Bool, true, false, List, [], ◌∷◌, ◌==◌, ◌&&◌}
use Rattle.std.specs.Char.{to_ascii_lowercase}

-- the same letter, digit or underscore, where case does not count
unfoldable pub same_letter : ℕ → ℕ → Bool
same_letter x y = to_ascii_lowercase x == to_ascii_lowercase y

-- the same letters, digits and underscores
unfoldable pub same_name : List ℕ → List ℕ → Bool
same_name [] [] = true
same_name (x ∷ a) (y ∷ b) = same_letter x y && same_name a b
same_name [] (y ∷ b) = false
same_name (x ∷ a) [] = false
