-- The turns of a loop with a parameter (5.5).
use Rattle.std.specs.Prelude.{ℕ, ◌+◌, pos, ◌+ℤ◌, ◌-ℤ◌, int_le, int_lt, if◌then◌else◌, Option, Some, None}
use Rattle.ctl_program.specs.declared.operators.Direction.{Direction}
use Rattle.ctl_program.specs.declared.operators.Direction.TheVariants.{Upward, Downward}
use Rattle.ctl_meaning.specs.Numbers.{signed, cell_of}

-- the cell of the bound that a loop counts from, where the low bound stands in this cell and the high one in the next
abbrev pub counted : Direction → ℕ → ℕ
counted Upward low = low
counted Downward low = low + 1

-- the bound that a loop counts from
abbrev pub start : Direction → ℕ → ℕ → ℕ
start Upward a b = a
start Downward a b = b

-- the value behind it
abbrev pub following : Direction → ℕ → ℕ → ℕ
following Upward a b = cell_of (signed a +ℤ pos 1)
following Downward a b = cell_of (signed b -ℤ pos 1)

-- the value of the first turn, if there is one, by the bounds
abbrev pub first_value : Direction → ℕ → ℕ → Option ℕ
first_value way a b = if int_le (signed a) (signed b) then Some (start way a b) else None

-- the value of the next turn, if one is left
abbrev pub next_value : Direction → ℕ → ℕ → Option ℕ
next_value way a b = if int_lt (signed a) (signed b) then Some (following way a b) else None
