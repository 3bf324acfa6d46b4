-- What the tables of the check satisfy, and what then holds of what is found and judged by them.
use Rattle.std.specs.Prelude.{◌≡◌, ◌<◌, nat_lt, ℕ, Bool, true, false, List, map, slice_get, Option, Some, None}
use Rattle.ctl_program.specs.declared.types.Ty.{Ty}
use Rattle.ctl_program.specs.declared.types.Ty.TheVariants as ty
use Rattle.ctl_program.specs.declared.types.Var.{Var}
use Rattle.ctl_program.specs.declared.types.Root.{Root}
use Rattle.ctl_program.specs.declared.types.Root.TheVariants as root
use Rattle.ctl_program.specs.declared.types.AccessType.{AccessType}
use Rattle.ctl_program.specs.declared.expression.Step.{Step}
use Rattle.ctl_program.specs.declared.expression.Step.TheVariants as step
use Rattle.ctl_syntax.specs.declared.item.Mode.{Mode}
use Rattle.ctl_syntax.specs.declared.item.Mode.TheVariants as mode
use Rattle.ctl_syntax.specs.declared.item.Aliasing.{Aliasing}
use Rattle.ctl_syntax.specs.declared.item.Aliasing.TheVariants as aliasing
use Rattle.ctl_typing.specs.declared.table.Tables.{Tables}
use Rattle.ctl_typing.specs.declared.table.Entry.{Entry}
use Rattle.ctl_typing.specs.declared.table.Entry.TheVariants as entry
use Rattle.ctl_typing.specs.declared.table.ObjectEntry.{ObjectEntry}
use Rattle.ctl_typing.specs.declared.table.Standing.{Standing}
use Rattle.ctl_typing.specs.declared.table.Standing.TheVariants as standing
use Rattle.ctl_typing.specs.declared.table.FormalEntry.{FormalEntry}
use Rattle.ctl_typing.specs.declared.table.Profile.{Profile}
use Rattle.ctl_typing.specs.declared.table.RecordEntry.{RecordEntry}
use Rattle.ctl_typing.specs.declared.found.Asked.{Asked}
use Rattle.ctl_typing.specs.declared.found.Asked.TheVariants as asking
use Rattle.ctl_typing.specs.declared.found.Typed.{Typed as Typed_value}
use Rattle.ctl_typing.specs.declared.found.Head.{Head}
use Rattle.ctl_typing.specs.declared.found.Head.TheVariants as head
use Rattle.ctl_typing.specs.declared.found.Place.{Place}
use Rattle.ctl_typing.specs.declared.found.Found.{Found}
use Rattle.ctl_typing.specs.declared.found.Found.TheVariants as found
use Rattle.ctl_typing.specs.Judgement.{Judgement}
use Rattle.ctl_typing.specs.Lookup.{component_of, descends, designated_by, has_subpools}
use Rattle.ctl_syntax.specs.declared.denoted.OperationName.{OperationName}
use Rattle.ctl_draft.specs.Operations.{operation_formals, user_operation, operations_of}
use Rattle.ctl_program.specs.Library.{mark_release_pool}
use Rattle.ctl_typing.specs.Typing.{Sense, meets}
use Rattle.ctl_well_typed.specs.Setting.{Passing, In, Out, InOut, Formal, Holding, Declared, Stands, Frames, Names, Signature, Setting, HasAccess, InView, Callable}
use Rattle.ctl_well_typed.specs.Types.{is_scalar, Descends, Covers, HasRoot, HasDiscriminant, HasSubpools, Leads, Walks}
use Rattle.ctl_well_typed.specs.Expressions.{Typed, IsValue}
use Rattle.ctl_well_typed.specs.Statements.{Puts}
use Rattle.ctl_sound.specs.Known.{IfSome, Gives, All}

-- The tables ---------------------------------------------------------------------------------

abbrev pub passing_of : Mode → Passing
passing_of mode.In = In
passing_of mode.Out = Out
passing_of mode.InOut = InOut

abbrev pub formal_of : FormalEntry → Formal
formal_of f = record { passing = passing_of f.mode; ty = f.ty }

-- an aliased variable is a declared object (3.10)
abbrev pub AliasFine : Frames → Aliasing → Head → Ty → Type 0
AliasFine env aliasing.Aliased (head.At v) t = Names env v (Declared t)
AliasFine env aliasing.Aliased (head.Given x) t = Unit {0}
AliasFine env aliasing.Unaliased h t = Unit {0}

-- a declared object has a slot for one (3.3.1)
abbrev pub DeclaredFine : Frames → Standing → Var → Ty → Type 0
DeclaredFine env standing.Declared v t = Names env v (Declared t)
DeclaredFine env s v t = Unit {0}

pub record ObjectFine (k : Setting) (env : Frames) (o : ObjectEntry) : Type 0 where
  pub holding : Holding
  pub names : Names env o.var holding
  pub stands : Stands holding o.ty
  pub in_view : InView k env o.ty
  pub alias : AliasFine env o.aliasing (head.At o.var) o.ty
  pub declared : DeclaredFine env o.standing o.var o.ty

pub record ProfileFine (k : Setting) (env : Frames) (p : Profile) : Type 0 where
  pub is : Signature
  pub callable : Callable k env p.subprogram is
  pub formals : is.formals ≡ map formal_of p.formals
  pub result : is.result ≡ p.result
  pub formals_in_view : All (λ f. InView k env f.ty) p.formals
  pub result_in_view : IfSome (InView k env) p.result

abbrev pub EntryFine : Setting → Frames → Entry → Type 0
EntryFine k env (entry.«Type» t) = InView k env t
EntryFine k env (entry.Incomplete t) = Unit {0}
EntryFine k env (entry.Object o) = ObjectFine k env o
EntryFine k env (entry.Subprogram p) = ProfileFine k env p
EntryFine k env (entry.Deallocation a) = InView k env (ty.Access a)
EntryFine k env (entry.Exception n) = n < k.exceptions
EntryFine k env entry.Unknown = Unit {0}

-- what is known of types agrees with the tables of the program
pub record TypesFine (k : Setting) (env : Frames) (tables : Tables) : Type 0 where
  pub component : (name : List ℕ) (t i : ℕ) (c : Ty) → component_of tables name t ≡ Some (i, c) → InView k env (ty.Record t) → Leads k (ty.Record t) (step.Component t i) c × InView k env c
  pub ancestor : (u t : ℕ) → descends tables u t ≡ true → Descends k u t
  pub rooted : (t : ℕ) (r : RecordEntry) → slice_get tables.records t ≡ Some r → HasRoot k t r.root
  -- the record types of the library stand first, and are in view everywhere
  pub library : (t : ℕ) → nat_lt t 4 ≡ true → InView k env (ty.Record t)
  pub mark_pool : HasRoot k mark_release_pool root.MarkPool
  pub designated : (a : ℕ) (t : Ty) (x : AccessType) → designated_by tables a ≡ Some t → slice_get k.accesses a ≡ Some x → x.designated ≡ t
  pub designated_in_view : (a : ℕ) (t : Ty) → designated_by tables a ≡ Some t → InView k env (ty.Access a) → InView k env t
  pub designated_at_home : (a : ℕ) (t : Ty) → designated_by tables a ≡ Some t → (to : HasAccess k env a) → InView k to.home t
  pub subpools : (a : ℕ) → has_subpools tables (slice_get tables.states.accesses a) ≡ true → (to : HasAccess k env a) → HasSubpools k to.home to.is.pool

-- an operation that the user wrote for a record type, or for one that it descends from (7.6, 13.11)
pub record OperationFine (k : Setting) (env : Frames) (o : OperationName) (t s : ℕ) : Type 0 where
  pub is : Signature
  pub root : ℕ
  pub callable : Callable k env s is
  pub descends : Descends k root t
  pub formals : is.formals ≡ map formal_of (operation_formals o (ty.Record root))
  pub result : is.result ≡ None

pub record Sound (k : Setting) (env : Frames) (tables : Tables) : Type 0 where
  pub entries : (n : ℕ) → IfSome (EntryFine k env) (slice_get tables.entries n)
  pub types : TypesFine k env tables
  pub operations : (o : OperationName) (t s : ℕ) → InView k env (ty.Record t) → user_operation o (operations_of (slice_get tables.states.records t)) ≡ Some s → OperationFine k env o t s
  -- Constraint_Error, Program_Error and Storage_Error have the first numbers
  pub exceptions : (n : ℕ) → nat_lt n 3 ≡ true → n < k.exceptions

-- Names as far as they are read -----------------------------------------------------------------

-- what a name begins with
abbrev pub Heads : Setting → Frames → Head → Ty → Type 0
Heads k env (head.At v) t = (h : Holding) × (Names env v h × Stands h t)
Heads k env (head.Given x) t = Typed k env x t × IsValue x t

pub record PartOf (k : Setting) (env : Frames) (h : Head) (steps : List Step) (t : Ty) : Type 0 where
  pub start : Ty
  pub heads : Heads k env h start
  pub walks : Walks k start steps t
  pub in_view : InView k env t

pub record PlaceFine (k : Setting) (env : Frames) (p : Place) : Type 0 where
  pub part : PartOf k env p.head p.steps p.ty
  pub alias : AliasFine env p.aliasing p.head p.ty

-- a view of a part as its ancestor
pub record ViewFine (k : Setting) (env : Frames) (p : Place) : Type 0 where
  pub own : Ty
  pub part : PartOf k env p.head p.steps own
  pub covers : Covers k p.ty own
  pub in_view : InView k env p.ty

pub record ValueFine (k : Setting) (env : Frames) (x : Typed_value) : Type 0 where
  pub typed : Typed k env x.value x.ty
  pub in_view : InView k env x.ty

pub record DiscriminantFine (k : Setting) (env : Frames) (p : Place) (i : ℕ) : Type 0 where
  pub number : ℕ
  pub is : Root
  pub part : PartOf k env p.head p.steps (ty.Record number)
  pub rooted : HasRoot k number is
  pub has : HasDiscriminant is i

-- what has an image (3.5, profile)
abbrev pub is_imaged : Ty → Bool
is_imaged ty.Integer = true
is_imaged ty.Boolean = true
is_imaged t = false

pub record AccessedFine (k : Setting) (env : Frames) (v : Var) (t : Ty) : Type 0 where
  pub number : ℕ
  pub is : t ≡ ty.Record number
  pub names : Names env v (Declared (ty.Record number))

abbrev pub FoundFine : Setting → Frames → Found → Type 0
FoundFine k env (found.Part p) = PlaceFine k env p
FoundFine k env (found.TypeName t) = InView k env t
FoundFine k env (found.Callable n) = Unit {0}
FoundFine k env (found.Computed x) = ValueFine k env x × (is_scalar x.ty ≡ true)
FoundFine k env (found.Subpools which) = Unit {0}
FoundFine k env (found.Image t) = is_imaged t ≡ true
FoundFine k env (found.Imaged x) = ValueFine k env x × (is_imaged x.ty ≡ true)
FoundFine k env (found.Discriminant p i) = DiscriminantFine k env p i
FoundFine k env (found.View p) = ViewFine k env p
FoundFine k env (found.Accessed v t) = AccessedFine k env v t

-- Expressions ---------------------------------------------------------------------------------------

-- the type that a place asks can be used there
abbrev pub AskedFine : Setting → Frames → Asked → Type 0
AskedFine k env (asking.Exactly t) = InView k env t
AskedFine k env asked = Unit {0}

-- what no name denotes is no record
abbrev pub ScalarUnlessNamed : {A : Type 0} → Option A → Ty → Type 0
ScalarUnlessNamed None t = is_scalar t ≡ true
ScalarUnlessNamed (Some a) t = Unit {0}

pub record Fine {A : Type 0} (k : Setting) (env : Frames) (asked : Asked) (named : Option A) (x : Typed_value) : Type 0 where
  pub typed : Typed k env x.value x.ty
  pub in_view : InView k env x.ty
  pub met : meets asked x.ty ≡ true
  pub scalar : ScalarUnlessNamed named x.ty

-- what is known of an expression is right, wherever the tables are
pub record Good (k : Setting) (env : Frames) (tables : Tables) (x : Sense) : Type 0 where
  pub judged : (asked : Asked) → AskedFine k env asked → Gives (Fine k env asked x.named) (x.judged tables asked)
  pub bare : IfSome (λ (f : Tables → Judgement Found). Gives (FoundFine k env) (f tables)) x.bare
  pub named : IfSome (λ (f : Tables → Judgement Found). Gives (FoundFine k env) (f tables)) x.named
  pub texts : Gives (Puts k env) (x.texts tables)
