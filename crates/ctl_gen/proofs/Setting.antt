-- What the simulation of each construct stands on: the tables agree, and bodies behave when they are called.
use Rattle.std.proofs.Common.{◌≡◌, ℕ, ◌+◌, ◌<◌, ◌≤◌, List, [], ◌∷◌, length, Option, Some, None, true, refl, ◌∙◌, subst, arith}
use Rattle.std.specs.Prelude.{slice_get, option_map, take}
use Rattle.ctl_program.specs.declared.program.Subprogram.{Subprogram}
use Rattle.ctl_program.specs.declared.types.Ty.{Ty}
use Rattle.ctl_program.specs.declared.types.Ty.TheVariants.{Record}
use Rattle.ctl_program.specs.declared.types.Var.{Var}
use Rattle.ctl_program.specs.declared.types.RecordType.{RecordType}
use Rattle.ctl_program.specs.declared.operators.SubprogramKind.{SubprogramKind}
use Rattle.ctl_program.specs.declared.operators.SubprogramKind.TheVariants.{Procedure, Function}
use Rattle.ctl_tree.specs.declared.event.Cause.TheVariants as CauseOf
use Rattle.ctl_tree.specs.declared.event.Event.{Event}
use Rattle.ctl_meaning.specs.World.{Collection, Log, Origin, World, Slot, Member}
use Rattle.ctl_meaning.specs.Lists.{last_of}
use Rattle.ctl_meaning.specs.Changes.{home_of as origin_home}
use Rattle.ctl_meaning.specs.Choice.{Ask}
use Rattle.ctl_meaning.specs.Outcome.{raised_by, Way, Result, Goes, Leaves, Tried, Fine, tell}
use Rattle.ctl_meaning.specs.Types.{Tables, cells_of, offset_in, operation, placed, size_of as storage_size}
use Rattle.ctl_meaning.specs.Names.{Execution, OfSubprogram, OfAllocator, Returned, Call, Default, Tools}
use Rattle.ctl_meaning.specs.Finalization.{finalize_begun}
use Rattle.ctl_meaning.proofs.Cuts.{UpTo}
use Rattle.ctl_code.specs.declared.code.Entry.{Entry}
use Rattle.ctl_code.specs.declared.code.Instr.TheVariants as InstrOf
use Rattle.ctl_code.specs.declared.code.Code.{Code}
use Rattle.ctl_code.specs.declared.kinds.Kind.{Kind}
use Rattle.ctl_code.specs.States.{Move, Word, Scalar, Handed, Complete, After, AfterBlock, AfterProcedure, AfterFunction, AfterBody, Frame, State}
use Rattle.ctl_code.specs.Table.{Here, by_new, called_among, default_of, enter_body, given, new_with, offset_of, operation_of, or_complete, pool_in, set_seen, size_of, units_of, with_values}
use Rattle.ctl_code.specs.Steps.{moved, step}
use Rattle.ctl_code.specs.Valid.{IsDeclarable, IsValid, MayLie, kinds_at}
use Rattle.ctl_code.specs.Windows.{depth}
use Rattle.ctl_layout.specs.Parts.{first_position}
use Rattle.ctl_layout.specs.Records.{adjust_by, is_laid}
use Rattle.ctl_layout.specs.Layout.{evaluation, home_of}
use Rattle.ctl_layout.specs.Run.{IsBody}
use Rattle.ctl_layout.specs.Values.{ValueCode, value_code}
use Rattle.ctl_gen.proofs.Known.{IsPlainType, IsScalar}
use Rattle.ctl_gen.proofs.Parted.{Agree, GivesDefaults, IsComputed}
use Rattle.ctl_gen.proofs.Place.{Laid}
use Rattle.ctl_gen.proofs.Each.{Each}
use Rattle.ctl_gen.proofs.Entered.{IsAsLong}
use Rattle.ctl_gen.proofs.Collections.{home}
use Rattle.ctl_gen.proofs.Worlds.{IsNested, IsPlainSlot, Since, home_nested}
use Rattle.ctl_gen.proofs.Scopes.{IsCallable, IsSurrounded}
use Rattle.ctl_gen.proofs.Follow.{IsRaise, Runs, RunsTo, at, gives, transferred}

-- the first cells of the components of types that are laid out are those of the tables, and the first component of each type begins with the
-- first cell
pub record ArePlaced (k : Tables) (code : Code) : Type 0 where
  pub each : (t position : ℕ) → is_laid k.records t ≡ true → offset_of code t position ≡ offset_in position (placed k t)
  pub first : (t : ℕ) → offset_of code t first_position ≡ 0

-- the code of a default stands where the table says, and evaluates it inside of some of the masters around the type that has it (3.8)
pub record HasDefault (code : Code) (t position : ℕ) (x : ValueCode) (ty : Ty) : Type 0 where
  pub level : ℕ
  pub number : ℕ
  pub laid : Laid code (default_of code t position) (evaluation level number x ty)
  pub around : (masters : ℕ) → IsDeclarable code masters t → level ≤ masters

-- the machine's table names the operations and the components of the record types, the operations and all that have an entry are among
-- these subprograms, and the code is well formed
pub record Setting (k : Tables) (code : Code) : Type 0 where
  pub subprograms : List Subprogram
  pub valid : IsValid code
  pub places : ArePlaced k code
  pub sizes : (t : ℕ) → is_laid k.records t ≡ true → size_of code t ≡ cells_of k (Record t)
  -- an object takes as many storage units (13.3)
  pub units : (t : ℕ) → is_laid k.records t ≡ true → units_of code t ≡ storage_size k (Record t)
  pub agrees : (default : Default) → GivesDefaults k default → Agree k code default
  pub defaults : (t position : ℕ) (ty : Ty) (x : IsComputed k t position ty) → HasDefault code t position (value_code x.expression) ty
  pub initialize : (t : ℕ) → operation_of (λ x. x.initialize) code t ≡ operation (λ x. x.initialize) k t
  pub adjust : (t : ℕ) (r : RecordType) → slice_get k.records t ≡ Some r → operation_of (λ x. x.adjust) code t ≡ adjust_by r.root r.operations.adjust
  pub finalize : (t : ℕ) → operation_of (λ x. x.finalize) code t ≡ operation (λ x. x.finalize) k t
  -- the Allocate and the Deallocate that the user wrote for a type of pools (13.11)
  pub allocate : (t : ℕ) → operation_of (λ x. x.allocate) code t ≡ operation (λ x. x.allocate) k t
  pub deallocate : (t : ℕ) → operation_of (λ x. x.deallocate) code t ≡ operation (λ x. x.deallocate) k t
  -- the collection of each access type stands in the same slot, and so does its storage pool
  pub accesses : (access : ℕ) → slice_get code.accesses.items access ≡ option_map home_of (slice_get k.accesses access)
  pub body : (f : ℕ) (e : Entry) → slice_get code.entries.items f ≡ Some e → IsBody subprograms f
  pub initialize_body : (t f : ℕ) → operation (λ x. x.initialize) k t ≡ Some f → IsBody subprograms f
  pub adjust_body : (t f : ℕ) → operation (λ x. x.adjust) k t ≡ Some f → IsBody subprograms f
  pub finalize_body : (t f : ℕ) → operation (λ x. x.finalize) k t ≡ Some f → IsBody subprograms f
  pub allocate_body : (t f : ℕ) → operation (λ x. x.allocate) k t ≡ Some f → IsBody subprograms f
  pub deallocate_body : (t f : ℕ) → operation (λ x. x.deallocate) k t ≡ Some f → IsBody subprograms f

-- what evaluates with these executions
abbrev pub tools_with : Ask → Tables → Call → Default → Tools
tools_with ask k call default = record { ask = ask; tables = k; call = call; default = default }

-- the same executions among the masters of a statement that assigns, if one does, whichever they are called among
abbrev pub called : Option (List ℕ) → Call → Call
called None call = call
called (Some d) call = λ x home. call x d

pub called_is : (assigning : Option (List ℕ)) (call : Call) (x : Execution) (o : Origin) (w : World) → called assigning call x (origin_home o w) ≡ call x (called_among assigning o w)
called_is None call x o w = refl
called_is (Some d) call x o w = refl

-- a display is seen: that of its last master, which is older than the next one; it has as many masters as stand around, at least one
pub record Sees (d : List ℕ) (s : List Kind) (w : World) : Type 0 where
  pub old : last_of d < w.ledger.next_master
  pub home : home (last_of d) w.activations ≡ d
  pub long : length d ≡ depth s
  pub deep : 1 ≤ length d

-- what expressions want of a display, whatever operands stand over the others
abbrev pub IsSeen : World → List ℕ → List Kind → Type 0
IsSeen w d s = (last_of d < w.ledger.next_master) × (home (last_of d) w.activations ≡ d) × IsAsLong d s

pub seen : {w : World} {d : List ℕ} {s : List Kind} → Sees d s w → IsSeen w d s
seen sees = (sees.old, sees.home, (let long = sees.long in omega (arith, long), λ entered. sees.long))

-- its masters are nested in one another, also since then
pub seen_nested : (k : Tables) (code : Code) (d : List ℕ) (s : List Kind) (w0 w : World) → IsSeen w0 d s → Since k code w0 w → IsNested w d
seen_nested k code d s w0 w sees since = subst (IsNested w) (since.1.homes (last_of d) sees.0 ∙ sees.1) (home_nested k code (last_of d) w since.0)

-- an assignment there is among so many masters
pub seen_surrounds : (k : Tables) (code : Code) (d : List ℕ) (s : List Kind) (w0 : World) (n : ℕ) → IsSeen w0 d s → IsSurrounded k code (Some d) w0 (depth s) n
seen_surrounds k code d s w0 n sees w o since at =
    (sees.2.0, seen_nested k code d s w0 w sees since)

-- what is handed on with no value, where nothing but an exception leaves
abbrev pub told : {A : Type 0} → Result A → Tried Handed
told (Goes a) = Fine Complete
told (Leaves y) = or_complete (raised_by y)

-- what an execution gives to the frame that waits for it
abbrev pub returns : {A : Type 0} → List Frame → Result A → Log → World → State
returns ks r l w = gives ks (told r) l w

-- where the end of a body of this kind leads
abbrev pub EndsIn : SubprogramKind → After → Type 0
EndsIn Procedure (AfterProcedure copies p) = Unit {0}
EndsIn Procedure AfterBody = Unit {0}
EndsIn Function (AfterFunction cells p) = Unit {0}
EndsIn _ _ = ⊥

-- what a body returns, there: what its formals held and the value of a function are operands behind the call, and an exception is under way;
-- what waits for an operation is told how it ended
abbrev pub returned_to : After → List Frame → Result Returned → Log → World → State
returned_to AfterBody ks r l w = returns ks r l w
returned_to (AfterBlock p) ks r l w = returns ks r l w
returned_to (AfterProcedure copies p) ks (Goes r) l w = at p.display p.place ks (with_values copies r.slots p.operands) l w
returned_to (AfterProcedure copies p) ks (Leaves y) l w = transferred y ks l w
returned_to (AfterFunction cells p) ks (Goes r) l w = at p.display p.place ks (given cells r.cells ∷ p.operands) l w
returned_to (AfterFunction cells p) ks (Leaves y) l w = transferred y ks l w

-- nothing but an exception leaves a body
abbrev pub IsTold : Option Way → Type 0
IsTold None = Unit {0}
IsTold (Some y) = IsRaise y

abbrev pub Told : (k : Tables) (code : Code) → World → Option Way → World → Type 0
Told k code w0 y w = IsTold y × Since k code w0 w

-- nothing leaves a finalization
abbrev pub IsSure : Option Way → Type 0
IsSure None = Unit {0}
IsSure (Some y) = ⊥

abbrev pub Sure : (k : Tables) (code : Code) → World → Option Way → World → Type 0
Sure k code w0 y w = IsSure y × Since k code w0 w

-- what a step of an allocator makes: an object of a type by default, or one of a record type with a value that is at hand
pub data Made : Type 0 where
  ByDefault : (ty : Ty) → Made
  Copied : (t : ℕ) (v : List ℕ) → Made

abbrev pub made_type : Made → Ty
made_type (ByDefault ty) = ty
made_type (Copied t v) = Record t

abbrev pub made_value : Made → Option (List ℕ)
made_value (ByDefault ty) = None
made_value (Copied t v) = Some v

-- where an object is created whose operations are declared in these masters, they are the first of those that are seen there
abbrev pub IsMadeAmong : List ℕ → List ℕ → World → Type 0
IsMadeAmong outer d w = (last_of d < w.ledger.next_master) × (home (last_of d) w.activations ≡ d) × (length outer ≤ length d) × (outer ≡ take (length outer) d)

-- objects of a type may lie in the collection that an access type has where a display is seen, if one stands, whose master is one of those seen
abbrev pub MayAllocate : Code → ℕ → Ty → List ℕ → World → Type 0
MayAllocate code access ty d w = (x : Collection) → set_seen (slice_get code.accesses.items access) d w ≡ Some x → MayLie code (length (home x.master w.activations)) ty × IsMadeAmong (home x.master w.activations) d w

-- that step, with storage of a pool
abbrev pub by_allocator : Code → Made → Option Var → Option Collection → List Word → Here → Move
by_allocator code (ByDefault ty) = by_new code ty
by_allocator code (Copied t v) = new_with code t v

-- the place that an allocator leads to, behind two instructions: the next one is for the address that a user's Allocate gave (13.11)
abbrev pub behind_allocator : ℕ → ℕ
behind_allocator place = place + 1 + 1

-- that instruction stands behind it
abbrev pub IsServed : (code : Code) → Made → ℕ → Type 0
IsServed code (ByDefault of) place = (ty : Ty) × (at : ℕ) × (slice_get code.instructions.items (place + 1) ≡ Some (InstrOf.NewIn of ty at))
IsServed code (Copied t v) place = (ty : Ty) × (at : ℕ) × (slice_get code.instructions.items (place + 1) ≡ Some (InstrOf.NewCopyIn t ty at))

-- behind both, a new object of an elementary type takes its value
abbrev pub IsGiven : (code : Code) → Ty → ℕ → Type 0
IsGiven code of place = IsServed code (ByDefault of) place × ((ty : Ty) × (at : ℕ) × (slice_get code.instructions.items (behind_allocator place) ≡ Some (InstrOf.GiveValue of ty at)))

-- how many steps that no tick pays come at most before an allocator is cut or has stopped, from its own step on
abbrev pub allocator_steps : Made → ℕ
allocator_steps (ByDefault ty) = 7
allocator_steps (Copied t v) = 8

-- an allocator gives one cell, and nothing but an exception leaves it
abbrev pub Allocates : (k : Tables) (code : Code) → World → Result Returned → World → Type 0
Allocates k code w0 (Goes r) w = ((n : ℕ) × (r.cells ≡ n ∷ [])) × Since k code w0 w
Allocates k code w0 (Leaves y) w = IsRaise y × Since k code w0 w

-- bodies behave, while at most this much is on the clock: from the state whose step enters the body, in so many masters as are around it,
-- which are nested, to where a body of its kind leads. And so do allocators without a handle, behind the one that they take from the clock: from
-- the state whose step is theirs, also where the object takes a value of an elementary type, which stands below it. The finalization of a
-- member, with all that its operations do, leaves no more on the clock and members to be finalized together than there were
pub record Calls (ask : Ask) (k : Tables) (code : Code) (setting : Setting k code) (bound : ℕ) (call : Call) : Type 0 where
  pub runs : (f : ℕ) (s : Subprogram) → slice_get setting.subprograms f ≡ Some s → (w0 : World) (v : List ℕ) (actuals : List Slot) (after : After) (ks : List Frame) (c : ℕ) (l : Log) (w : World) (s0 : State) (kind : SubprogramKind) (count : ℕ) → EndsIn kind after → c ≤ bound → Since k code w0 w → IsCallable code kind (length v) f count → IsNested w v → Each IsPlainSlot actuals → step ask code s0 ≡ moved l (enter_body (slice_get code.entries.items f) [] v actuals after ks w) → Runs ask code (Told k code w0) 0 3 s0 c (returned_to after ks) (call (OfSubprogram f actuals) v c l w)
  pub allocates : (access : ℕ) (m : Made) → IsPlainType k (made_type m) → (w0 : World) (d : List ℕ) (place : ℕ) (ks : List Frame) (ops : List Word) (c : ℕ) (l : Log) (w : World) (s0 : State) → c + 1 ≤ bound → Since k code w0 w → MayAllocate code access (made_type m) d w → IsServed code m place → step ask code s0 ≡ moved l (by_allocator code m (pool_in (slice_get code.accesses.items access)) (set_seen (slice_get code.accesses.items access) d w) ops (record { display = d; place = place; control = ks; world = w })) → RunsTo ask code (Allocates k code w0) 6 (allocator_steps m) s0 c (returned_to (AfterFunction None (record { display = d; place = behind_allocator place; operands = ops })) ks) (call (OfAllocator access (made_type m) None (made_value m)) d c l w)
  pub gives_value : (access : ℕ) (of : Ty) → IsScalar of → (x : ℕ) (w0 : World) (d : List ℕ) (place : ℕ) (ks : List Frame) (ops : List Word) (c : ℕ) (l : Log) (w : World) (s0 : State) → c + 1 ≤ bound → Since k code w0 w → MayAllocate code access of d w → IsGiven code of place → step ask code s0 ≡ moved l (by_new code of (pool_in (slice_get code.accesses.items access)) (set_seen (slice_get code.accesses.items access) d w) (Scalar x ∷ ops) (record { display = d; place = place; control = ks; world = w })) → RunsTo ask code (Allocates k code w0) 7 9 s0 c (returned_to (AfterFunction None (record { display = d; place = behind_allocator place + 1; operands = ops })) ks) (call (OfAllocator access of None (Some (x ∷ []))) d c l w)
  pub counts : (default : Default) (m : Member) → UpTo k ask bound (finalize_begun (tools_with ask k call default) CauseOf.Collection m)

-- what is shown when a body is entered is shown before
pub enter_shows : (x : Option Entry) (e : Event) (v : List ℕ) (actuals : List Slot) (after : After) (k : List Frame) (l : Log) (w : World) → moved l (enter_body x (e ∷ []) v actuals after k w) ≡ moved (tell e l) (enter_body x [] v actuals after k w)
enter_shows None e v actuals after k l w = refl
enter_shows (Some x) e v actuals after k l w = refl

-- where something stands there is an instruction
pub never_missing : (code : Code) → IsValid code → (place : ℕ) (s : List Kind) → slice_get code.instructions.items place ≡ Some InstrOf.Missing → kinds_at code place ≡ Some s → ⊥
never_missing code valid place s here standing = valid.each place InstrOf.Missing s here standing
