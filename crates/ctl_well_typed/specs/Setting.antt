-- What a well typed program has and does not say: what each slot of its masters holds, and which masters stand around each of its declarations.
use Rattle.std.specs.Prelude.{◌≡◌, ℕ, suc, List, length, take, slice_get, Option, Some}
use Rattle.ctl_program.specs.declared.types.Ty.{Ty}
use Rattle.ctl_program.specs.declared.types.Ty.TheVariants as ty
use Rattle.ctl_program.specs.declared.types.Var.{Var}
use Rattle.ctl_program.specs.declared.types.AccessType.{AccessType}
use Rattle.ctl_program.specs.declared.types.RecordType.{RecordType}

-- Slots -----------------------------------------------------------------------------

-- how a parameter is passed (6.2)
pub data Passing : Type 0 where
  In : Passing
  Out : Passing
  InOut : Passing

-- a formal parameter (6.1)
pub record Formal : Type 0 where
  pub passing : Passing
  pub ty : Ty

-- what a slot is for while its master is active: a declared object (3.3.1), a formal (6.1), a loop parameter (5.5), or the collection of an
-- access type, by the type's number (7.6.1)
pub data Holding : Type 0 where
  Declared : (t : Ty) → Holding
  OfFormal : (f : Formal) → Holding
  LoopParameter : Holding
  Collection : (access : ℕ) → Holding

-- a value of this type stands there
pub data Stands : Holding → Ty → Type 0 where
  declared : {t : Ty} → Stands (Declared t) t
  formal : {f : Formal} → Stands (OfFormal f) f.ty
  loop_parameter : Stands LoopParameter ty.Integer

-- the slots of a master
abbrev pub Frame : Type 0
Frame = List Holding

-- the masters around a place, the outermost one first
abbrev pub Frames : Type 0
Frames = List Frame

-- the slot that a use names; levels count from 1 (3.10.2)
pub data Names (env : Frames) : Var → Holding → Type 0 where
  slot : {level number : ℕ} {f : Frame} {h : Holding} → slice_get env level ≡ Some f → slice_get f number ≡ Some h → Names env (record { level = suc level; slot = number }) h

-- the masters of the one place stand around the other
abbrev pub Encloses : Frames → Frames → Type 0
Encloses home env = take (length home) env ≡ home

-- Declarations -----------------------------------------------------------------------

-- what is known of a subprogram: the masters around its declaration, its formals, and its result
pub record Signature : Type 0 where
  pub home : Frames
  pub formals : List Formal
  pub result : Option Ty

-- the tables of a program, with the masters around each declaration in them
pub record Setting : Type 0 where
  pub records : List RecordType
  pub accesses : List AccessType
  -- how many exceptions there are
  pub exceptions : ℕ
  pub record_homes : List Frames
  pub access_homes : List Frames
  pub subprograms : List Signature

-- a record type or an access type that is declared around a place
pub record HasRecord (k : Setting) (env : Frames) (t : ℕ) : Type 0 where
  pub is : RecordType
  pub home : Frames
  pub found : slice_get k.records t ≡ Some is
  pub at_home : slice_get k.record_homes t ≡ Some home
  pub encloses : Encloses home env

pub record HasAccess (k : Setting) (env : Frames) (a : ℕ) : Type 0 where
  pub is : AccessType
  pub home : Frames
  pub found : slice_get k.accesses a ≡ Some is
  pub at_home : slice_get k.access_homes a ≡ Some home
  pub encloses : Encloses home env

-- a type that can be used at a place
abbrev pub InView : Setting → Frames → Ty → Type 0
InView k env (ty.Record t) = HasRecord k env t
InView k env (ty.Access a) = HasAccess k env a
InView k env t = Unit {0}

-- a subprogram that can be called at a place
pub record Callable (k : Setting) (env : Frames) (s : ℕ) (is : Signature) : Type 0 where
  pub found : slice_get k.subprograms s ≡ Some is
  pub encloses : Encloses is.home env
