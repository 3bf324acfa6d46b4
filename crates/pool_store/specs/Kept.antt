-- Finite maps by number with some of their values only.
use Rattle.std.specs.Prelude.{Bool, false, cond, Option, Some, None}
use Rattle.std.specs.Ordering.{nat_cmp}
use Rattle.std.specs.Option.{option_map_or}
use Rattle.std.specs.FinMap.{FinMap, get, retain_keys}

-- the values that pass a test
unfoldable pub kept : {V : Type 0} → (V → Bool) → FinMap nat_cmp V → FinMap nat_cmp V
kept passes t = retain_keys t (λ n. option_map_or passes (get t n) false)

-- a value that may be there, where it passes the test
abbrev pub kept_if : {V : Type 0} → (V → Bool) → Option V → Option V
kept_if passes None = None
kept_if passes (Some v) = cond (passes v) (Some v) None
