-- When a program is well typed: its types, its subprograms, and its main procedure (3.8 to 3.10, 6.1, 6.3, 7.6, 10.2, 13.11).
use Rattle.std.specs.Prelude.{◌≡◌, ◌<◌, ◌≤◌, ℕ, Bool, true, false, List, [], ◌∷◌, ◌++◌, length, map, slice_get, Option, Some, None}
use Rattle.ctl_program.specs.declared.types.Ty.{Ty}
use Rattle.ctl_program.specs.declared.types.Ty.TheVariants as ty
use Rattle.ctl_program.specs.declared.types.Root.{Root}
use Rattle.ctl_program.specs.declared.types.Root.TheVariants as root
use Rattle.ctl_program.specs.declared.types.Var.{Var}
use Rattle.ctl_program.specs.declared.types.Component.{Component}
use Rattle.ctl_program.specs.declared.types.Operations.{Operations}
use Rattle.ctl_program.specs.declared.types.RecordType.{RecordType}
use Rattle.ctl_program.specs.declared.types.AccessType.{AccessType}
use Rattle.ctl_program.specs.declared.operators.SubprogramKind.{SubprogramKind}
use Rattle.ctl_program.specs.declared.operators.SubprogramKind.TheVariants as kind
use Rattle.ctl_program.specs.declared.program.Checked.{Checked}
use Rattle.ctl_program.specs.declared.program.Subprogram.{Subprogram}
use Rattle.ctl_well_typed.specs.Setting.{Passing, In, Out, InOut, Formal, Declared, OfFormal, Collection, Frame, Frames, Names, Signature, Setting, HasRecord, InView, Callable}
use Rattle.ctl_well_typed.specs.Types.{Descends, HasRoot, HasSubpools}
use Rattle.ctl_well_typed.specs.Expressions.{Perhaps}
use Rattle.ctl_well_typed.specs.Statements.{is_pool, Mastered}

-- Types ---------------------------------------------------------------------------------------

-- a component's type stands before the record type in the table
abbrev pub Before : ℕ → Ty → Type 0
Before n (ty.Record t) = t < n
Before n t = Unit {0}

-- the components that a record type of this number adds, with their defaults (3.8)
pub data Added (k : Setting) (home : Frames) (n : ℕ) : List Component → Type 0 where
  no_more_components : Added k home n []
  one_more_component : {c : Component} {more : List Component} → InView k home c.ty → Before n c.ty → Perhaps k home c.default c.ty → Added k home n more → Added k home n (c ∷ more)

-- the parent stands before the record type, and has its root (3.9.1)
pub data Parent (k : Setting) (home : Frames) (n : ℕ) : Root → Option ℕ → Type 0 where
  none : {r : Root} → Parent k home n r None
  extends : {r : Root} {p : ℕ} → p < n → HasRecord k home p → HasRoot k p r → Parent k home n r (Some p)

-- the first parameter of an operation is a type that the record type descends from, or itself (7.6, 13.11)
pub data Overrides (k : Setting) (home : Frames) (n : ℕ) (rest : List Formal) : Option ℕ → Type 0 where
  no_operation : Overrides k home n rest None
  operation : {s u : ℕ} {is : Signature} → Callable k home s is → is.result ≡ None → is.formals ≡ record { passing = InOut; ty = ty.Record u } ∷ rest → Descends k u n → Overrides k home n rest (Some s)

abbrev pub formal : Passing → Ty → Formal
formal p t = record { passing = p; ty = t }

pub record Overridden (k : Setting) (home : Frames) (n : ℕ) (os : Operations) : Type 0 where
  pub initialize : Overrides k home n [] os.initialize
  pub adjust : Overrides k home n [] os.adjust
  pub finalize : Overrides k home n [] os.finalize
  pub allocate : Overrides k home n (formal Out ty.Address ∷ formal In ty.Count ∷ formal In ty.Count ∷ []) os.allocate
  pub deallocate : Overrides k home n (formal In ty.Address ∷ formal In ty.Count ∷ formal In ty.Count ∷ []) os.deallocate

abbrev pub is_tagged : Root → Bool
is_tagged root.Untagged = false
is_tagged r = true

abbrev pub may_adjust : Root → Bool
may_adjust root.Controlled = true
may_adjust r = false

abbrev pub is_block_pool : Root → Bool
is_block_pool root.BlockPool = true
is_block_pool r = false

-- what a type does not have it does not override
abbrev pub OnlyWhere : Bool → Option ℕ → Type 0
OnlyWhere true o = Unit {0}
OnlyWhere false o = o ≡ None

-- Initialize and Finalize are operations of tagged types, Adjust of those that are no pools, Allocate and Deallocate of block pools (7.6, 13.11)
pub record Provided (r : Root) (os : Operations) : Type 0 where
  pub initialize : OnlyWhere (is_tagged r) os.initialize
  pub adjust : OnlyWhere (may_adjust r) os.adjust
  pub finalize : OnlyWhere (is_tagged r) os.finalize
  pub allocate : OnlyWhere (is_block_pool r) os.allocate
  pub deallocate : OnlyWhere (is_block_pool r) os.deallocate

pub record RecordFine (k : Setting) (n : ℕ) (r : RecordType) (home : Frames) : Type 0 where
  pub level : r.level ≡ length home
  pub parent : Parent k home n r.root r.parent
  pub own : Added k home n r.own
  pub operations : Overridden k home n r.operations
  pub provided : Provided r.root r.operations

-- the pool of an access type is a declared object of a pool type (13.11, profile)
pub data Pooled (k : Setting) (home : Frames) : Option Var → Type 0 where
  standard : Pooled k home None
  from_pool : {v : Var} {t : ℕ} {r : Root} → Names home v (Declared (ty.Record t)) → HasRoot k t r → is_pool r ≡ true → Pooled k home (Some v)

pub record AccessFine (k : Setting) (n : ℕ) (a : AccessType) (home : Frames) : Type 0 where
  pub level : a.collection.level ≡ length home
  pub collection : Names home a.collection (Collection n)
  pub designated : InView k home a.designated
  pub pool : Pooled k home a.pool
  -- one with subpools is no deeper than its pool (13.11.4)
  pub subpools : (v : Var) → a.pool ≡ Some v → HasSubpools k home (Some v) → length home ≤ v.level

-- Subprograms ------------------------------------------------------------------------------------

pub data FormalsInView (k : Setting) (home : Frames) : List Formal → Type 0 where
  no_more_formals : FormalsInView k home []
  one_more_formal : {f : Formal} {more : List Formal} → InView k home f.ty → FormalsInView k home more → FormalsInView k home (f ∷ more)

pub data Results (k : Setting) (home : Frames) : Option Ty → SubprogramKind → Type 0 where
  procedure : Results k home None kind.Procedure
  function : {t : Ty} → InView k home t → Results k home (Some t) kind.Function

-- the formals have the first slots of the body (6.3)
pub record SubprogramFine (k : Setting) (p : Subprogram) (s : Signature) : Type 0 where
  pub level : p.level ≡ length s.home
  pub result : Results k s.home s.result p.kind
  pub formals : FormalsInView k s.home s.formals
  pub others : Frame
  pub body : Mastered k s.home (map OfFormal s.formals ++ others) (record { in_loop = false; in_handler = false; gives = s.result }) p.body

-- Programs --------------------------------------------------------------------------------------------

pub record SettingFits (p : Checked) (k : Setting) : Type 0 where
  pub records : k.records ≡ p.records
  pub accesses : k.accesses ≡ p.accesses
  pub exceptions : k.exceptions ≡ length p.exceptions
  pub record_homes : length k.record_homes ≡ length p.records
  pub access_homes : length k.access_homes ≡ length p.accesses
  pub subprograms : length k.subprograms ≡ length p.subprograms

-- the homes of its types and the signatures of its subprograms are found, with which everything in it is well typed
pub record WellTyped (p : Checked) : Type 0 where
  pub k : Setting
  pub fits : SettingFits p k
  -- Constraint_Error, Program_Error and Storage_Error stand first
  pub exceptions : 3 ≤ length p.exceptions
  pub each_record : (n : ℕ) (r : RecordType) (home : Frames) → slice_get p.records n ≡ Some r → slice_get k.record_homes n ≡ Some home → RecordFine k n r home
  pub each_access : (n : ℕ) (a : AccessType) (home : Frames) → slice_get p.accesses n ≡ Some a → slice_get k.access_homes n ≡ Some home → AccessFine k n a home
  pub each_subprogram : (n : ℕ) (s : Subprogram) (is : Signature) → slice_get p.subprograms n ≡ Some s → slice_get k.subprograms n ≡ Some is → SubprogramFine k s is
  -- the main procedure has no formals and no result, and stands in no master (10.2)
  pub main : Callable k [] p.main (record { home = []; formals = []; result = None })
