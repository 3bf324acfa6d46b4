-- What the tables say of types (3.4, 3.8, 3.9.1, 3.10), and what operators take (4.5).
use Rattle.std.specs.Prelude.{◌≡◌, ◌≤◌, ◌<◌, ◌⊎◌, ℕ, suc, Bool, true, false, List, [], ◌∷◌, ◌++◌, slice_get, Option, Some, None}
use Rattle.ctl_program.specs.declared.types.Ty.{Ty}
use Rattle.ctl_program.specs.declared.types.Ty.TheVariants as ty
use Rattle.ctl_program.specs.declared.types.Root.{Root}
use Rattle.ctl_program.specs.declared.types.Root.TheVariants as root
use Rattle.ctl_program.specs.declared.types.Var.{Var}
use Rattle.ctl_program.specs.declared.types.Component.{Component}
use Rattle.ctl_program.specs.declared.types.RecordType.{RecordType}
use Rattle.ctl_program.specs.declared.types.AccessType.{AccessType}
use Rattle.ctl_program.specs.declared.expression.Step.{Step}
use Rattle.ctl_program.specs.declared.expression.Step.TheVariants as step
use Rattle.ctl_program.specs.declared.operators.UnaryOp.{UnaryOp}
use Rattle.ctl_program.specs.declared.operators.UnaryOp.TheVariants as one
use Rattle.ctl_program.specs.declared.operators.BinaryOp.{BinaryOp}
use Rattle.ctl_program.specs.declared.operators.BinaryOp.TheVariants as op
use Rattle.ctl_program.specs.declared.operators.CopyStart.{CopyStart}
use Rattle.ctl_program.specs.declared.operators.CopyStart.TheVariants as copy
use Rattle.ctl_program.specs.Limits.{integer_last, integer_first_cell}
use Rattle.ctl_well_typed.specs.Setting.{Passing, In, InOut, Declared, Frames, Names, Setting}

-- Kinds of types ------------------------------------------------------------------------

abbrev pub is_number : Ty → Bool
is_number ty.Integer = true
is_number ty.Count = true
is_number t = false

-- one cell, and no components
abbrev pub is_scalar : Ty → Bool
is_scalar (ty.Record t) = false
is_scalar t = true

-- numbers and Booleans have an order (4.5.2)
abbrev pub has_order : Ty → Bool
has_order ty.Boolean = true
has_order t = is_number t

-- the cell of a value that a program writes down: a number in the range of its type, in two's complement; a truth value; null (3.5.3, 3.5.4, 4.2)
abbrev pub IsCell : Ty → ℕ → Type 0
IsCell ty.Integer cell = (cell ≤ integer_last) ⊎ ((integer_first_cell ≤ cell) × (cell < 18446744073709551616))
IsCell ty.Count cell = cell ≤ integer_last
IsCell ty.Boolean cell = cell ≤ 1
IsCell (ty.Record t) cell = ⊥
IsCell t cell = cell ≡ 0

-- Records -------------------------------------------------------------------------------------

-- the components of a record type, inherited ones first (3.4, 3.9.1)
pub data Components (k : Setting) : ℕ → List Component → Type 0 where
  underived : {t : ℕ} {r : RecordType} → slice_get k.records t ≡ Some r → r.parent ≡ None → Components k t r.own
  derived : {t p : ℕ} {r : RecordType} {inherited : List Component} → slice_get k.records t ≡ Some r → r.parent ≡ Some p → Components k p inherited → Components k t (inherited ++ r.own)

-- the second type is the first one, or descends from it (3.4.1)
pub data Descends (k : Setting) (u : ℕ) : ℕ → Type 0 where
  itself : Descends k u u
  from_parent : {t p : ℕ} {r : RecordType} → slice_get k.records t ≡ Some r → r.parent ≡ Some p → Descends k u p → Descends k u t

-- an object of the second type can stand where one of the first is named: its cells begin with those of its ancestor (4.6, 6.2)
pub data Covers (k : Setting) : Ty → Ty → Type 0 where
  same_type : {t : Ty} → Covers k t t
  ancestor : {u t : ℕ} → Descends k u t → Covers k (ty.Record u) (ty.Record t)

pub record HasRoot (k : Setting) (t : ℕ) (r : Root) : Type 0 where
  pub is : RecordType
  pub found : slice_get k.records t ≡ Some is
  pub rooted : is.root ≡ r

-- a discriminant of a pool type, by its position (13.11, profile)
pub data HasDiscriminant : Root → ℕ → Type 0 where
  block_size : HasDiscriminant root.BlockPool 0
  block_count : HasDiscriminant root.BlockPool 1
  pool_size : HasDiscriminant root.MarkPool 0

-- an access type with this pool has its objects in subpools: the pool is a declared object of a mark pool's type (13.11.4)
pub data HasSubpools (k : Setting) (home : Frames) : Option Var → Type 0 where
  of_mark_pool : {v : Var} {t : ℕ} → Names home v (Declared (ty.Record t)) → HasRoot k t root.MarkPool → HasSubpools k home (Some v)

-- Names -------------------------------------------------------------------------------------------

-- a selector, a dereference or a checked view leads from a type to another (4.1, 4.1.3, 4.6)
pub data Leads (k : Setting) : Ty → Step → Ty → Type 0 where
  component : {t i : ℕ} {cs : List Component} {c : Component} → Components k t cs → slice_get cs i ≡ Some c → Leads k (ty.Record t) (step.Component t (suc i)) c.ty
  dereference : {a : ℕ} {x : AccessType} → slice_get k.accesses a ≡ Some x → Leads k (ty.Access a) step.Dereference x.designated
  narrow : {u t : ℕ} → Descends k u t → Leads k (ty.Record u) (step.Narrow t) (ty.Record t)

-- the steps of a name, one behind the other
pub data Walks (k : Setting) : Ty → List Step → Ty → Type 0 where
  arrived : {t : Ty} → Walks k t [] t
  further : {s t u : Ty} {x : Step} {more : List Step} → Leads k s x t → Walks k t more u → Walks k s (x ∷ more) u

-- Operators -----------------------------------------------------------------------------------------

-- the operand's type is the result's too (4.5.4, 4.5.6)
pub data Takes : UnaryOp → Ty → Type 0 where
  plus : {t : Ty} → is_number t ≡ true → Takes one.Plus t
  minus : {t : Ty} → is_number t ≡ true → Takes one.Minus t
  absolute : {t : Ty} → is_number t ≡ true → Takes one.Abs t
  negation : Takes one.Not ty.Boolean

abbrev pub is_arithmetic : BinaryOp → Bool
is_arithmetic op.Add = true
is_arithmetic op.Subtract = true
is_arithmetic op.Multiply = true
is_arithmetic op.Divide = true
is_arithmetic op.Modulo = true
is_arithmetic op.Remainder = true
is_arithmetic o = false

abbrev pub is_logical : BinaryOp → Bool
is_logical op.And = true
is_logical op.Or = true
is_logical op.Xor = true
is_logical o = false

abbrev pub is_equality : BinaryOp → Bool
is_equality op.Equal = true
is_equality op.Unequal = true
is_equality o = false

abbrev pub is_ordering : BinaryOp → Bool
is_ordering op.Less = true
is_ordering op.LessEqual = true
is_ordering op.Greater = true
is_ordering op.GreaterEqual = true
is_ordering o = false

-- an operator, the type of both operands, and that of the result (4.5.1 to 4.5.5)
pub data Joins : BinaryOp → Ty → Ty → Type 0 where
  arithmetic : {o : BinaryOp} {t : Ty} → is_arithmetic o ≡ true → is_number t ≡ true → Joins o t t
  logical : {o : BinaryOp} → is_logical o ≡ true → Joins o ty.Boolean ty.Boolean
  equality : {o : BinaryOp} {t : Ty} → is_equality o ≡ true → is_scalar t ≡ true → Joins o t ty.Boolean
  ordering : {o : BinaryOp} {t : Ty} → is_ordering o ≡ true → has_order t ≡ true → Joins o t ty.Boolean

-- Copies ----------------------------------------------------------------------------------------------

-- what the copy of an actual begins with: an `out` one of an access type or handle with the actual's value, as each `in out` one (6.4.1)
abbrev pub copy_of : Passing → Ty → CopyStart
copy_of InOut t = copy.Actual
copy_of p (ty.Access a) = copy.Actual
copy_of p ty.Handle = copy.Actual
copy_of p t = copy.Beginning

abbrev pub is_written : Passing → Bool
is_written In = false
is_written p = true
