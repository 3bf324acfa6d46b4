-- The programs that this version runs: blocks; objects of types that extend Controlled, Limited_Controlled or Block_Pool and of records that
-- are not tagged, whose components are scalar, access values, addresses or of such types again, with their Initialize, Adjust, Finalize,
-- Allocate and Deallocate; access types whose objects, of any of these types, lie in the standard pool or in a block pool, their collections,
-- allocators, without a value or with one, which for a record is that of a part or of a function, access attributes, and instances of
-- Unchecked_Deallocation; calls of the library's Initialize, Adjust, Finalize, Allocate and Deallocate; expressions over constants,
-- variables, components, discriminants of block pools, conversions of numbers and calls of functions, of scalar, access and record types;
-- assignments to variables and components, also of what access values designate, and calls give these too; calls of procedures, whose
-- actuals are values, also of records, copies of variables and components, and parts of objects; return statements, texts with images,
-- handlers of exceptions, and control.
-- Also objects that take the value of a part of their type, which may be any whose objects are declared, or that of a function, and
-- assignments of such values to records, in whichever declarative part the type stands. Defaults of components of elementary
-- types are evaluated.
use Rattle.std.specs.Prelude.{◌≡◌, ℕ, List, [], ◌∷◌, slice_get, Option, Some, None, Bool, true, ◌&&◌, IsTrue}
use Rattle.ctl_program.specs.declared.program.Subprogram.{Subprogram}
use Rattle.ctl_program.specs.declared.program.Checked.{Checked}
use Rattle.ctl_program.specs.declared.types.RecordType.{RecordType}
use Rattle.ctl_program.specs.declared.expression.Expr.{Expr}
use Rattle.ctl_program.specs.declared.types.Component.{Component}
use Rattle.ctl_layout.specs.Layout.{bodies, outside, computed}
use Rattle.ctl_layout.specs.Values.{value_code}

-- whether this version runs the default of a component that is evaluated, if it has one (3.8)
abbrev pub is_evaluation_run : List RecordType → Option Expr → Bool
is_evaluation_run records None = true
is_evaluation_run records (Some e) = (value_code e).runs records

abbrev pub is_default_run : List RecordType → Component → Bool
is_default_run records c = is_evaluation_run records (computed c)

abbrev pub are_own_run : List RecordType → List Component → Bool
are_own_run records [] = true
are_own_run records (c ∷ cs) = is_default_run records c && are_own_run records cs

-- those of the components that each type adds, also where no object has the type
abbrev pub are_defaults_run : List RecordType → List RecordType → Bool
are_defaults_run records [] = true
are_defaults_run records (r ∷ rs) = are_own_run records r.own && are_defaults_run records rs

-- whether this version runs each construct of a program
abbrev pub is_run : Checked → Bool
is_run program = (bodies 0 program.subprograms).runs (outside program.records) && are_defaults_run program.records program.records

abbrev pub IsRun : Checked → Type 0
IsRun program = IsTrue (is_run program)

-- a subprogram of the table
abbrev pub IsBody : List Subprogram → ℕ → Type 0
IsBody subprograms f = (s : Subprogram) × (slice_get subprograms f ≡ Some s)

-- an operation that the user wrote is a subprogram of the table
abbrev pub IsWritten : List Subprogram → Option ℕ → Type 0
IsWritten subprograms None = Unit {0}
IsWritten subprograms (Some f) = IsBody subprograms f

-- the main procedure, and the operations of each record type, are in the table
pub record AreLinked (program : Checked) : Type 0 where
  pub main : IsBody program.subprograms program.main
  pub initialize : (t : ℕ) (r : RecordType) → slice_get program.records t ≡ Some r → IsWritten program.subprograms r.operations.initialize
  pub adjust : (t : ℕ) (r : RecordType) → slice_get program.records t ≡ Some r → IsWritten program.subprograms r.operations.adjust
  pub finalize : (t : ℕ) (r : RecordType) → slice_get program.records t ≡ Some r → IsWritten program.subprograms r.operations.finalize
  pub allocate : (t : ℕ) (r : RecordType) → slice_get program.records t ≡ Some r → IsWritten program.subprograms r.operations.allocate
  pub deallocate : (t : ℕ) (r : RecordType) → slice_get program.records t ≡ Some r → IsWritten program.subprograms r.operations.deallocate
