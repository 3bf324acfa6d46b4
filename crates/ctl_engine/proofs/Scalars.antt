-- Types whose operands are values.
use Rattle.std.proofs.Common.{◌≡◌, ℕ, List, sym, subst}
use Rattle.ctl_program.specs.declared.types.Ty.{Ty}
use Rattle.ctl_program.specs.declared.types.Ty.TheVariants.{Integer, Count, Boolean, Address, Handle, Access, Record}
use Rattle.ctl_program.specs.declared.operators.UnaryOp.{UnaryOp}
use Rattle.ctl_program.specs.declared.operators.UnaryOp.TheVariants.{Not, Plus, Minus, Abs}
use Rattle.ctl_program.specs.declared.operators.BinaryOp.{BinaryOp}
use Rattle.ctl_program.specs.declared.operators.BinaryOp.TheVariants.{And, Or, Xor, Equal, Unequal, Less, LessEqual, Greater, GreaterEqual, Add, Subtract, Multiply, Divide, Modulo, Remainder}
use Rattle.ctl_meaning.specs.Finalization.{Spot}
use Rattle.ctl_code.specs.States.{Scalar, Located, Cells}
use Rattle.ctl_code.specs.Fits.{IsOperandOf}
use Rattle.ctl_code.specs.Valid.{IsScalar, IsCellOf, IsNumber, UnaryOf, BinaryOf}

-- an operand of a scalar type is a value
pub not_located : (ty : Ty) (s : Spot) → IsScalar ty → IsOperandOf ty (Located s) → ⊥
not_located Integer s is o = o
not_located Count s is o = o
not_located Boolean s is o = o
not_located Address s is o = o
not_located Handle s is o = o
not_located (Access a) s is o = o
not_located (Record t) s is o = is

pub not_cells : (ty : Ty) (v : List ℕ) → IsScalar ty → IsOperandOf ty (Cells v) → ⊥
not_cells Integer v is o = o
not_cells Count v is o = o
not_cells Boolean v is o = o
not_cells Address v is o = o
not_cells Handle v is o = o
not_cells (Access a) v is o = o
not_cells (Record t) v is o = is

pub is_value : (ty : Ty) (x : ℕ) → IsScalar ty → IsOperandOf ty (Scalar x)
is_value Integer x is = tt
is_value Count x is = tt
is_value Boolean x is = tt
is_value Address x is = tt
is_value Handle x is = tt
is_value (Access a) x is = tt
is_value (Record t) x is = absurd is

-- Types of operators ------------------------------------------------------------------------------------

number_scalar : (ty : Ty) → IsNumber ty → IsScalar ty
number_scalar Integer is = tt
number_scalar Count is = tt
number_scalar Boolean is = absurd is
number_scalar Address is = absurd is
number_scalar Handle is = absurd is
number_scalar (Access a) is = absurd is
number_scalar (Record t) is = absurd is

pub cell_scalar : (ty : Ty) (n : ℕ) → IsCellOf ty n → IsScalar ty
cell_scalar Integer n is = tt
cell_scalar Count n is = tt
cell_scalar Boolean n is = tt
cell_scalar Address n is = tt
cell_scalar Handle n is = tt
cell_scalar (Access a) n is = is
cell_scalar (Record t) n is = is

boolean_scalar : (ty : Ty) → ty ≡ Boolean → IsScalar ty
boolean_scalar ty e = subst IsScalar (sym e) tt

-- both the operand of an operator and its result
pub unary_scalar : (op : UnaryOp) (operand ty : Ty) → UnaryOf op operand ty → IsScalar operand × IsScalar ty
unary_scalar Not operand ty is = (boolean_scalar operand is.0, boolean_scalar ty is.1)
unary_scalar Plus operand ty is = (number_scalar operand is.0, number_scalar ty is.1)
unary_scalar Minus operand ty is = (number_scalar operand is.0, number_scalar ty is.1)
unary_scalar Abs operand ty is = (number_scalar operand is.0, number_scalar ty is.1)

-- both the operands of an operator and its result
pub binary_scalar : (op : BinaryOp) (operand ty : Ty) → BinaryOf op operand ty → IsScalar operand × IsScalar ty
binary_scalar And operand ty is = (boolean_scalar operand is.0, boolean_scalar ty is.1)
binary_scalar Or operand ty is = (boolean_scalar operand is.0, boolean_scalar ty is.1)
binary_scalar Xor operand ty is = (boolean_scalar operand is.0, boolean_scalar ty is.1)
binary_scalar Equal operand ty is = (is.0, boolean_scalar ty is.1)
binary_scalar Unequal operand ty is = (is.0, boolean_scalar ty is.1)
binary_scalar Less operand ty is = (is.0, boolean_scalar ty is.1)
binary_scalar LessEqual operand ty is = (is.0, boolean_scalar ty is.1)
binary_scalar Greater operand ty is = (is.0, boolean_scalar ty is.1)
binary_scalar GreaterEqual operand ty is = (is.0, boolean_scalar ty is.1)
binary_scalar Add operand ty is = let n = number_scalar ty is.0 in (subst IsScalar (sym is.1) n, n)
binary_scalar Subtract operand ty is = let n = number_scalar ty is.0 in (subst IsScalar (sym is.1) n, n)
binary_scalar Multiply operand ty is = let n = number_scalar ty is.0 in (subst IsScalar (sym is.1) n, n)
binary_scalar Divide operand ty is = let n = number_scalar ty is.0 in (subst IsScalar (sym is.1) n, n)
binary_scalar Modulo operand ty is = let n = number_scalar ty is.0 in (subst IsScalar (sym is.1) n, n)
binary_scalar Remainder operand ty is = let n = number_scalar ty is.0 in (subst IsScalar (sym is.1) n, n)
