-- Numbers in cells, their operators, and their images (3.5.4, 4.5, 3.5).
use Rattle.std.specs.Prelude.{ℕ, ◌+◌, ◌-◌, ◌^◌, List, ◌++◌, Option, Some, None, Bool, true, false, not, ◌&&◌, ◌||◌, nat_eq, nat_lt, if◌then◌else◌, ℤ, pos, negsuc, ◌+ℤ◌, ◌-ℤ◌, ◌*ℤ◌, int_le, int_lt, int_div, int_rem, nat_abs, codes, decimal}
use Rattle.ctl_program.specs.declared.types.Ty.{Ty}
use Rattle.ctl_program.specs.declared.types.Ty.TheVariants.{Integer, Count}
use Rattle.ctl_program.specs.declared.operators.UnaryOp.{UnaryOp}
use Rattle.ctl_program.specs.declared.operators.UnaryOp.TheVariants.{Plus, Minus, Abs, Not}
use Rattle.ctl_program.specs.declared.operators.BinaryOp.{BinaryOp}
use Rattle.ctl_program.specs.declared.operators.BinaryOp.TheVariants.{Add, Subtract, Multiply, Divide, Modulo, Remainder, And, Or, Xor, Equal, Unequal, Less, LessEqual, Greater, GreaterEqual}
use Rattle.ctl_program.specs.Limits.{integer_first, integer_last}

-- Cells ----------------------------------------------------------------------

-- a cell is below 2 ^ 64; a negative number counts down from there
unfoldable pub signed : ℕ → ℤ
signed n = if nat_lt n (2 ^ 63) then pos n else negsuc (2 ^ 64 - 1 - n)

unfoldable pub cell_of : ℤ → ℕ
cell_of (pos n) = n
cell_of (negsuc n) = 2 ^ 64 - 1 - n

-- a truth value is 1 or 0
unfoldable pub truth : Bool → ℕ
truth true = 1
truth false = 0

unfoldable pub is_true : ℕ → Bool
is_true n = not (nat_eq n 0)

-- Storage_Count begins at 0; it ends where Integer ends
unfoldable pub lowest : Ty → ℤ
lowest Count = pos 0
lowest _ = integer_first

unfoldable pub in_range : Ty → ℤ → Bool
in_range ty z = int_le (lowest ty) z && int_le z (pos integer_last)

-- the cell of a number of this type; none where it is out of range, which raises Constraint_Error (3.5.4)
unfoldable pub held : Ty → ℤ → Option ℕ
held ty z = if in_range ty z then Some (cell_of z) else None

-- Operators; none where Constraint_Error is raised ----------------------------

unfoldable pub absolute : ℤ → ℤ
absolute z = pos (nat_abs z)

unfoldable pub unary : UnaryOp → Ty → ℕ → Option ℕ
unary Plus ty n = held ty (signed n)
unary Minus ty n = held ty (pos 0 -ℤ signed n)
unary Abs ty n = held ty (absolute (signed n))
unary Not ty n = Some (truth (nat_eq n 0))

unfoldable pub same_sign : ℤ → ℤ → Bool
same_sign (pos n) (pos m) = true
same_sign (pos n) (negsuc m) = false
same_sign (negsuc n) (pos m) = false
same_sign (negsuc n) (negsuc m) = true

unfoldable pub is_zero : ℤ → Bool
is_zero (pos n) = nat_eq n 0
is_zero (negsuc n) = false

-- the remainder r of x by y with the sign of y, where rem has the sign of x (4.5.5)
unfoldable pub with_sign_of : ℤ → ℤ → ℤ
with_sign_of y r = if is_zero r || same_sign r y then r else r +ℤ y

unfoldable pub modulo : ℤ → ℤ → ℤ
modulo x y = with_sign_of y (int_rem x y)

-- none where the divisor is zero (4.5.5)
unfoldable pub by_nonzero : ℕ → Option ℕ → Option ℕ
by_nonzero b quotient = if nat_eq b 0 then None else quotient

unfoldable pub binary : BinaryOp → Ty → ℕ → ℕ → Option ℕ
binary Add ty a b = held ty (signed a +ℤ signed b)
binary Subtract ty a b = held ty (signed a -ℤ signed b)
binary Multiply ty a b = held ty (signed a *ℤ signed b)
binary Divide ty a b = by_nonzero b (held ty (int_div (signed a) (signed b)))
binary Modulo ty a b = by_nonzero b (held ty (modulo (signed a) (signed b)))
binary Remainder ty a b = by_nonzero b (held ty (int_rem (signed a) (signed b)))
binary And ty a b = Some (truth (is_true a && is_true b))
binary Or ty a b = Some (truth (is_true a || is_true b))
binary Xor ty a b = Some (truth (not (nat_eq a b)))
binary Equal ty a b = Some (truth (nat_eq a b))
binary Unequal ty a b = Some (truth (not (nat_eq a b)))
binary Less ty a b = Some (truth (int_lt (signed a) (signed b)))
binary LessEqual ty a b = Some (truth (int_le (signed a) (signed b)))
binary Greater ty a b = Some (truth (int_lt (signed b) (signed a)))
binary GreaterEqual ty a b = Some (truth (int_le (signed b) (signed a)))

-- a conversion to a number type keeps its range (4.6); to an access type it keeps the value
unfoldable pub converted : Ty → ℕ → Option ℕ
converted Integer n = held Integer (signed n)
converted Count n = held Count (signed n)
converted _ n = Some n

-- Images (3.5) -----------------------------------------------------

unfoldable pub image_of : ℤ → List ℕ
image_of (pos n) = codes " " ++ decimal n
image_of (negsuc n) = codes "-" ++ decimal (n + 1)

unfoldable pub integer_image : ℕ → List ℕ
integer_image n = image_of (signed n)

unfoldable pub boolean_image : ℕ → List ℕ
boolean_image n = if is_true n then codes "TRUE" else codes "FALSE"

-- everything here, opened at once
unfoldable pub opened_numbers : Unit {0}
unfolding signed cell_of truth is_true lowest in_range held absolute unary same_sign is_zero with_sign_of modulo by_nonzero binary converted image_of integer_image boolean_image
opened_numbers = tt
