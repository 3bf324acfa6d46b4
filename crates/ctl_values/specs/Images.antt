-- The sign of an image (3.5).
use Rattle.std.specs.Prelude.{ℕ, ℤ, pos, negsuc}

-- a blank or a minus sign
abbrev pub sign_of : ℤ → ℕ
sign_of (pos n) = 32
sign_of (negsuc n) = 45
