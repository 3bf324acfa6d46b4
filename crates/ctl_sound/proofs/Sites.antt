-- Places of the text: the program that is found in the end with the masters around a place of it, and what holds of the tables there.
use Rattle.std.specs.Prelude.{◌≡◌, ◌≤◌, ◌<◌, ℕ, zero, suc, true, false, List, [], ◌∷◌, ◌++◌, map, length, slice_get, Option, Some, None}
use Rattle.ctl_program.specs.declared.types.Ty.{Ty}
use Rattle.ctl_program.specs.declared.types.Ty.TheVariants as ty
use Rattle.ctl_program.specs.declared.types.AccessType.{AccessType}
use Rattle.ctl_program.specs.declared.types.Component.{Component}
use Rattle.ctl_program.specs.declared.types.Operations.{Operations}
use Rattle.ctl_program.specs.declared.types.RecordType.{RecordType}
use Rattle.ctl_program.specs.declared.types.Root.{Root}
use Rattle.ctl_program.specs.declared.types.Root.TheVariants as root
use Rattle.ctl_program.specs.declared.types.Var.{Var}
use Rattle.ctl_program.specs.declared.statement.Master.{Master}
use Rattle.ctl_program.specs.declared.expression.Step.TheVariants as step
use Rattle.ctl_syntax.specs.declared.denoted.OperationName.{OperationName}
use Rattle.ctl_typing.specs.declared.table.AccessEntry.{AccessEntry}
use Rattle.ctl_typing.specs.declared.table.Designated.TheVariants as designated
use Rattle.ctl_typing.specs.declared.table.Entry.{Entry}
use Rattle.ctl_typing.specs.declared.table.RecordEntry.{RecordEntry}
use Rattle.ctl_typing.specs.Lookup.{component_among}
use Rattle.ctl_draft.specs.declared.draft.Around.{Around}
use Rattle.ctl_draft.specs.declared.draft.Draft.{Draft}
use Rattle.ctl_draft.specs.declared.draft.Giving.{Giving}
use Rattle.ctl_draft.specs.declared.draft.Giving.TheVariants as giving
use Rattle.ctl_draft.specs.declared.draft.Routine.{Routine}
use Rattle.ctl_draft.specs.Operations.{provides, user_operation, operations_of, operation_formals}
use Rattle.ctl_well_typed.specs.Setting.{Declared, OfFormal, Collection, Names, Frame, Frames, Encloses, Signature, Setting, InView}
use Rattle.ctl_well_typed.specs.Types.{Components, Descends, HasRoot, Leads}
use Rattle.ctl_well_typed.specs.Programs.{Parent, Added, FormalsInView, Results}
use Rattle.ctl_well_typed.specs.Statements.{is_pool, Mastered}
use Rattle.ctl_sound.specs.Known.{IfSome}
use Rattle.ctl_sound.specs.Library.{HasLibrary}
use Rattle.ctl_sound.specs.Sound.{EntryFine, formal_of}
use Rattle.ctl_sound.proofs.Growing.{Behind, From, Made, operations_in}

-- Sites ----------------------------------------------------------------------------------------

-- the program, the masters around the innermost master, the slots of that, and the declarations that are in view where it begins
pub record Site : Type 0 where
  pub k : Setting
  pub has : HasLibrary k
  pub outer : Frames
  pub frame : Frame
  pub base : List Entry
  -- how many access types there are then
  pub first : ℕ

abbrev pub around_site : Site → Frames
around_site s = s.outer ++ s.frame ∷ []

-- what the check knows of a master
pub record Here : Type 0 where
  pub level : ℕ
  pub start : ℕ
  pub first : ℕ
  pub giving : Giving

abbrev pub here : Around → Here
here a = record { level = a.level; start = a.start; first = a.first_access; giving = a.giving }

-- what a return gives, where that is known
abbrev pub gives_of : Giving → Option Ty
gives_of (giving.Value t) = Some t
gives_of g = None

-- it agrees with the site
pub record IsHere (s : Site) (h : Here) : Type 0 where
  pub level : h.level ≡ length (around_site s)
  pub start : h.start ≡ length s.base
  pub first : h.first ≡ s.first
  pub giving : IfSome (InView s.k (around_site s)) (gives_of h.giving)

-- What is known of the tables --------------------------------------------------------------------

-- a record type of the tables is in the program as it is there, and all but its operations is right
pub record RecordKnown (k : Setting) (t : ℕ) (r : RecordEntry) : Type 0 where
  pub is : RecordType
  pub home : Frames
  pub found : slice_get k.records t ≡ Some is
  pub at_home : slice_get k.record_homes t ≡ Some home
  pub rooted : is.root ≡ r.root
  pub same_parent : is.parent ≡ r.parent
  pub same_level : is.level ≡ r.level
  pub level : is.level ≡ length home
  pub parent : Parent k home t is.root is.parent
  pub added : Added k home t is.own
  -- all its components, those that it inherits first
  pub all : List Component
  pub components : Components k t all
  pub count : length all ≡ r.count
  pub own : (name : List ℕ) (i : ℕ) (c : Ty) → component_among name r.own ≡ Some (i, c) → Leads k (ty.Record t) (step.Component t i) c × InView k home c

-- an operation that the user wrote for a record type, or for one that it descends from (7.6, 13.11)
pub record OperationKnown (k : Setting) (o : OperationName) (t s : ℕ) : Type 0 where
  pub is : Signature
  pub root : ℕ
  pub home : Frames
  pub at_home : slice_get k.record_homes t ≡ Some home
  pub found : slice_get k.subprograms s ≡ Some is
  pub encloses : Encloses is.home home
  pub descends : Descends k root t
  pub formals : is.formals ≡ map formal_of (operation_formals o (ty.Record root))
  pub result : is.result ≡ None
  -- types of its root have it
  pub provided : (r : Root) → HasRoot k t r → provides r false o ≡ true

-- a body for this signature
abbrev pub BodyFor : Setting → Signature → Master → Type 0
BodyFor k is m = (others : Frame) × Mastered k is.home (map OfFormal is.formals ++ others) (record { in_loop = false; in_handler = false; gives = is.result }) m

-- a subprogram, whose body is right where it has come
pub record SubprogramKnown (k : Setting) (n : ℕ) (p : Routine) : Type 0 where
  pub is : Signature
  pub found : slice_get k.subprograms n ≡ Some is
  pub level : p.level ≡ length is.home
  pub result : Results k is.home is.result p.kind
  pub formals : FormalsInView k is.home is.formals
  pub body : IfSome (BodyFor k is) p.body

abbrev pub no_operations : Operations
no_operations = operations_of None

abbrev pub operations_at : List Operations → ℕ → Operations
operations_at [] n = no_operations
operations_at (o ∷ os) zero = o
operations_at (o ∷ os) (suc n) = operations_at os n

-- a pool object of these masters (13.11)
pub record PoolKnown (k : Setting) (home : Frames) (p : Var × ℕ) : Type 0 where
  pub root : Root
  pub names : Names home p.0 (Declared (ty.Record p.1))
  pub rooted : HasRoot k p.1 root
  pub pool : is_pool root ≡ true

-- an access type of this level with this pool is no deeper than the pool, where that has subpools (13.11.4)
abbrev pub NoDeeper : Setting → ℕ → Var × ℕ → Type 0
NoDeeper k level p = HasRoot k p.1 root.MarkPool → level ≤ p.0.level

-- an access type of the tables is in the program as far as it is known, and has its collection
pub record AccessKnown (k : Setting) (a : ℕ) (x : AccessEntry) : Type 0 where
  pub is : AccessType
  pub home : Frames
  pub found : slice_get k.accesses a ≡ Some is
  pub at_home : slice_get k.access_homes a ≡ Some home
  pub collection : is.collection ≡ x.collection
  pub own_level : x.level ≡ length home
  pub level : x.collection.level ≡ length home
  pub names : Names home x.collection (Collection a)
  pub designated : (t : Ty) → x.designated ≡ designated.Known t → (is.designated ≡ t) × InView k home t
  pub pool : (p : Var × ℕ) → x.pool ≡ Some p → PoolKnown k home p
  pub pooled : (p : Var × ℕ) → x.pool ≡ Some p → is.pool ≡ Some p.0
  pub subpools : (p : Var × ℕ) → x.pool ≡ Some p → NoDeeper k x.level p

-- all that is declared is right, but for types and operations that come behind
pub record Known (k : Setting) (d : Draft) : Type 0 where
  pub records : (t : ℕ) (r : RecordEntry) → slice_get d.tables.records t ≡ Some r → RecordKnown k t r
  pub operations : (o : OperationName) (t s : ℕ) → user_operation o (operations_at (map operations_in d.tables.states.records) t) ≡ Some s → OperationKnown k o t s
  pub subprograms : (n : ℕ) (p : Routine) → slice_get d.subprograms n ≡ Some p → SubprogramKnown k n p
  pub accesses : (a : ℕ) (x : AccessEntry) → slice_get d.tables.states.accesses a ≡ Some x → AccessKnown k a x
  pub states : length d.tables.states.records ≡ length d.tables.records
  pub components : length d.components ≡ length d.tables.records

-- in front of a construct: each declaration in view is right, and those that were in view where the master begins are there yet
pub record Front (s : Site) (d : Draft) : Type 0 where
  pub entries : (n : ℕ) → IfSome (EntryFine s.k (around_site s)) (slice_get d.tables.entries n)
  pub base : Behind s.base d.tables.entries
  pub known : Known s.k d
  pub own : d.own ≡ []
  -- the access types since then are declared in the master, or in masters inside it
  pub inner : (n : ℕ) (home : Frames) → s.first ≤ n → n < length d.tables.states.accesses → slice_get s.k.access_homes n ≡ Some home → Encloses (around_site s) home

-- Behind a construct --------------------------------------------------------------------------------

-- a record type of the tables is in the program, with its components and some operations
pub record InTable (k : Setting) (t : ℕ) (r : RecordEntry) (cs : Option (List Component)) : Type 0 where
  pub own : List Component
  pub known : cs ≡ Some own
  pub operations : Operations
  pub found : slice_get k.records t ≡ Some (record { level = r.level; root = r.root; parent = r.parent; own = own; operations = operations })

-- an access type of the tables is in the program
pub record InAccesses (k : Setting) (a : ℕ) (x : AccessEntry) : Type 0 where
  pub is : AccessType
  pub found : slice_get k.accesses a ≡ Some is
  pub collection : is.collection ≡ x.collection
  pub designated : (t : Ty) → x.designated ≡ designated.Known t → is.designated ≡ t
  pub pool : (p : Var × ℕ) → x.pool ≡ Some p → is.pool ≡ Some p.0

-- the program has what is in the tables
pub record Back (k : Setting) (d : Draft) : Type 0 where
  pub exceptions : length d.exceptions ≤ k.exceptions
  pub records : (t : ℕ) (r : RecordEntry) (cs : Option (List Component)) → slice_get d.tables.records t ≡ Some r → slice_get d.components t ≡ Some cs → InTable k t r cs
  pub accesses : (a : ℕ) (x : AccessEntry) → slice_get d.tables.states.accesses a ≡ Some x → InAccesses k a x

-- the program has what a construct makes, from this draft on
pub record Agrees (s : Site) (d : Draft) (m : Made) : Type 0 where
  pub holdings : From (length d.slots) m.holdings s.frame
  pub records : From (length d.tables.records) (m.homes (around_site s)).records s.k.record_homes
  pub accesses : From (length d.tables.states.accesses) (m.homes (around_site s)).accesses s.k.access_homes
  pub subprograms : From (length d.subprograms) (m.homes (around_site s)).subprograms s.k.subprograms
