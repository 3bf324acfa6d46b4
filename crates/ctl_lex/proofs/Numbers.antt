-- The value of a number of at most 18 digits fits.
use Rattle.std.proofs.Common.{◌≡◌, ℕ, suc, ◌+◌, ◌*◌, ◌^◌, ◌<◌, ◌≤◌, true, List, length, take, get_or, count_by, cond, leb, ◌-◌, lit<, arith}
use Rattle.std.proofs.Math.Nat.{pow-suc, pow-le-pow_right}
use Rattle.std.proofs.lemmas.Bool.{and_parts, leb-true}
use Rattle.std.proofs.lemmas.List.Sums.{count_by_more_yes, sum_by-take-le}
use Rattle.ctl_lexis.specs.Bytes.{is_digit}

-- one more digit behind fewer than 18
pub more_fits : (v d n : ℕ) → v < 10 ^ n → d ≤ 9 → n + 1 ≤ 18 → v * 10 + d < 2 ^ 64
more_fits v d n below digit most =
    let one : 10 ^ suc n ≡ 10 ^ n * 10 = pow-suc 10 n in
    let up : 10 ^ suc n ≤ 10 ^ 18 = pow-le-pow_right {n = 10} (lit< tt) {i = suc n} {j = 18} (omega arith) in
    let top : 10 ^ 18 < 2 ^ 64 = lit< tt in
    omega (arith, one, up, top)

-- what a byte that is a digit stands for
pub digit_value : (b : ℕ) → is_digit b ≡ true → b - 48 ≤ 9
digit_value b digit = let parts = and_parts (leb 48 b) (leb b 57) digit in omega (arith, leb-true b 57 parts.1)

-- a digit that is still to be read is not counted yet
pub digits_left : (xs : List ℕ) (i : ℕ) → i < length xs → is_digit (get_or xs i 0) ≡ true → count_by is_digit (take i xs) + 1 ≤ count_by is_digit xs
digits_left xs i in_range digit =
    omega (arith, count_by_more_yes is_digit xs i 0 in_range digit, sum_by-take-le (λ (x : ℕ). cond (is_digit x) 1 0) xs (i + 1))
