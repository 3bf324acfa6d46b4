-- The types of the objects that this version declares, and of those that it assigns to; which components default initialization begins, and
-- which of those have a controlled part (3.8, 7.6).
use Rattle.std.specs.Prelude.{ℕ, ◌+◌, List, [], ◌∷◌, slice_get, Option, Some, None, Bool, true, false, not, ◌&&◌, ◌||◌, nat_le}
use Rattle.ctl_program.specs.declared.types.Ty.{Ty}
use Rattle.ctl_program.specs.declared.types.Ty.TheVariants.{Record}
use Rattle.ctl_program.specs.declared.types.Component.{Component}
use Rattle.ctl_program.specs.declared.expression.Expr.{Expr}
use Rattle.ctl_program.specs.declared.types.RecordType.{RecordType}
use Rattle.ctl_program.specs.declared.types.Root.{Root}
use Rattle.ctl_program.specs.declared.types.Root.TheVariants.{Untagged}
use Rattle.ctl_meaning.specs.Lists.{keep}
use Rattle.ctl_code.specs.declared.code.Begun.{Begun}
use Rattle.ctl_code.specs.declared.code.Initial.{Initial}
use Rattle.ctl_code.specs.declared.code.Initial.TheVariants.{Constant, ByType, Computed}
use Rattle.ctl_code.specs.declared.code.Layout.{Layout}
use Rattle.ctl_code.specs.declared.code.Parts.{Parts}
use Rattle.ctl_code.specs.declared.code.Parts.TheVariants as PartsOf
use Rattle.ctl_code.specs.Table.{has_part, parts_in}
pub use Rattle.ctl_layout.specs.Records.{constant_at, constant_of, is_plain}
use Rattle.ctl_layout.specs.Records.{constant_at, is_plain, is_run_type, run_default}
use Rattle.ctl_layout.specs.Around.{Site}

-- a type of the table whose objects are declared, or a scalar one
abbrev pub is_declared : List RecordType → Ty → Bool
is_declared records (Record t) = is_plain records t
is_declared records ty = is_run_type ty

-- a type of the library, or one that is declared in one of so many masters around a place: its operations are in scope there (7.6)
abbrev pub is_declared_in : ℕ → Option RecordType → Bool
is_declared_in masters None = false
is_declared_in masters (Some r) = nat_le r.level masters

-- one of them whose objects are declared: a part of it takes the value of another one (5.2)
abbrev pub is_assignable : Site → ℕ → Bool
is_assignable site t = is_plain site.records t && is_declared_in site.masters (slice_get site.records t)

-- Components that begin with something (3.8, 7.6) -------------------------------------------------

abbrev pub are_none : List Begun → Bool
are_none [] = true
are_none (x ∷ xs) = false

-- whether something begins in the objects of a record type that has this layout: a component of it does, or a part is controlled
abbrev pub is_begun : Option Layout → Bool
is_begun None = false
is_begun (Some x) = has_part x.parts || not (are_none x.begun.items)

abbrev pub type_if : ℕ → Bool → Option Initial
type_if t true = Some (ByType t)
type_if t false = None

-- by its own record type, where something begins in that and it has one of these layouts
abbrev pub by_type : List Layout → Ty → Option Initial
by_type layouts (Record t) = type_if t (is_begun (slice_get layouts t))
by_type layouts ty = None

-- with the value of its default, which is a constant, or is evaluated
abbrev pub initial_in : Option ℕ → Initial
initial_in (Some n) = Constant n
initial_in None = Computed

-- how a component begins: with its default, or else by its type (3.8); most begin with nothing
abbrev pub initial_by : Option Expr → Option Initial → Option Initial
initial_by (Some e) other = Some (initial_in (constant_at e))
initial_by None other = other

abbrev pub initial_of : List Layout → Component → Option Initial
initial_of layouts c = initial_by (run_default c) (by_type layouts c.ty)

abbrev pub begun_before : ℕ → ℕ → Option Initial → List Begun → List Begun
begun_before position offset None rest = rest
begun_before position offset (Some x) rest = (record { position = position; offset = offset; initial = x }) ∷ rest

-- those of these components that begin with something, where the first has this position and this cell, and the values of each type have so
-- many
abbrev pub begun_from : List Layout → (Ty → ℕ) → ℕ → ℕ → List Component → List Begun
begun_from layouts cells position offset [] = []
begun_from layouts cells position offset (c ∷ cs) = begun_before position offset (initial_of layouts c) (begun_from layouts cells (position + 1) (offset + cells c.ty) cs)

-- Components with a controlled part (7.6, 7.6.1) --------------------------------------------------

-- whether what begins so has a controlled part, where the types that stand before have these layouts
abbrev pub is_finalized_by : List Layout → Initial → Bool
is_finalized_by layouts (Constant n) = false
is_finalized_by layouts Computed = false
is_finalized_by layouts (ByType t) = has_part (parts_in (slice_get layouts t))

abbrev pub finalized_by : List Layout → List Begun → List Begun
finalized_by layouts xs = keep (λ x. is_finalized_by layouts x.initial) xs

abbrev pub parts_with : List Begun → Parts
parts_with [] = PartsOf.Plain
parts_with (x ∷ xs) = PartsOf.Within

-- whether the objects of a type are finalized, of whose components these have a controlled part: where it is tagged, they are controlled
-- themselves (7.6)
abbrev pub parts_by : Root → List Begun → Parts
parts_by Untagged controlled = parts_with controlled
parts_by _ controlled = PartsOf.Controlled
