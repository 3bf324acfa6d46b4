-- Counting down to nothing.
use Rattle.std.proofs.Common.{arith, ◌≡◌, ℕ, suc, ◌+◌, ◌-◌, ◌<◌}

-- what is left before a turn is one more than behind it
pub one_less : (n i : ℕ) → i < n → n - i ≡ suc (n - (i + 1))
one_less n i lt = omega (arith, lt)
