-- The Allocate that the user wrote is called for an allocator (13.11).
use Rattle.std.proofs.Common.{◌≡◌, ℕ, ◌+◌, ◌<◌, ◌≤◌, List, [], ◌∷◌, ◌++◌, Option, Some, None, Bool, true, false, cond, length, refl, sym, ap, ◌∙◌, subst, arith, reverse, unwrap_or}
use Rattle.std.specs.Prelude.{slice_get, slice_set, nat_eq, nat_lt, if◌then◌else◌}
use Rattle.std.proofs.lemmas.Bool.Decides.{nat_tests}
use Rattle.ctl_program.specs.declared.types.Ty.{Ty}
use Rattle.ctl_program.specs.declared.types.Ty.TheVariants.{Integer, Count, Boolean, Address, Handle, Access, Record}
use Rattle.ctl_tree.specs.declared.event.Event.TheVariants.{Allocate}
use Rattle.ctl_meaning.specs.World.{Object, World}
use Rattle.ctl_meaning.specs.Lists.{opened_lists}
use Rattle.ctl_meaning.specs.Objects.{object_in, opened_objects}
use Rattle.ctl_program.specs.Limits.{integer_last}
use Rattle.ctl_meaning.specs.Outcome.{ByRaise, constraint_error}
use Rattle.ctl_meaning.specs.Storage.{storage_actuals}
use Rattle.ctl_meaning.specs.Changes.{home_of}
use Rattle.ctl_code.specs.declared.kinds.Kind.{Kind}
use Rattle.ctl_code.specs.declared.kinds.Kind.TheVariants.{Operand}
use Rattle.ctl_code.specs.declared.code.Code.{Code}
use Rattle.ctl_code.specs.declared.code.Entry.{Entry}
use Rattle.ctl_code.specs.declared.code.Operations.{Operations}
use Rattle.ctl_code.specs.declared.code.Way.TheVariants as WayOf
use Rattle.ctl_code.specs.States as T
use Rattle.ctl_code.specs.States.{AfterProcedure, Scalar, State, Word}
use Rattle.ctl_code.specs.Table.{behind_declaration, call_allocate, enter_body, operation_for, operation_in, transfers}
use Rattle.ctl_code.specs.Valid.{IsValid, Leads, TakesStorage, over_numbers, storage_formals}
use Rattle.ctl_code.specs.Windows.{height}
use Rattle.ctl_engine.specs.declared.engine.Engine.{Engine}
use Rattle.ctl_frames.specs.declared.frame.After.TheVariants as AfterOf
use Rattle.ctl_frames.specs.declared.frame.Mode.TheVariants as ModeOf
use Rattle.ctl_places.specs.Granting.{with_numbers}
use Rattle.ctl_frames.specs.Masters.{heads_of, first_display, first_window}
use Rattle.ctl_engine.specs.Moves.{GoesOn, Inside, Makes, here_of}
use Rattle.ctl_frames.specs.declared.frame.Owned.{Owned}
use Rattle.ctl_frames.specs.Owned.{IsObject}
use Rattle.ctl_engine.specs.Shows.{Holds, Kept, kept, with_cells}
use Rattle.ctl_places.specs.StorageCalling.{AsksAllocate, CallsStorage, StorageCall}
use Rattle.ctl_frames.specs.Under.{tall}
use Rattle.ctl_engine.proofs.Bodies.{more_cells}
use Rattle.ctl_engine.proofs.Homes.{home_shown}
use Rattle.ctl_frames.proofs.Lists.{length_set, same_at}
use Rattle.ctl_engine.proofs.Places.{place_is}
use Rattle.ctl_engine.proofs.Plain.{transfers_makes}
use Rattle.ctl_engine.proofs.Values.{operand_put, room_for, window_in}

-- The body of the operation ------------------------------------------------------------------------------

-- the body of an operation that the user wrote has slots for its formals
pub record HasBody (code : Code) (f : ℕ) : Type 0 where
  pub entry : Entry
  pub found : slice_get code.entries.items f ≡ Some entry
  pub slots : storage_formals ≤ entry.slots

in_record : (code : Code) (t f : ℕ) (o : Option Operations) → IsValid code → slice_get code.records.items t ≡ o → operation_in (λ x. x.allocate) o ≡ Some f → HasBody code f
in_record code t f None valid found is = absurd (cc)
in_record code t f (Some x) valid found is =
    let takes = (valid.storage t x found).0 in
    let has = subst (λ (y : Option ℕ). TakesStorage code y) is takes in
    record { entry = has.0; found = has.1; slots = has.3 }

pub allocate_body : (code : Code) (ty : Ty) (f : ℕ) → IsValid code → operation_for (λ x. x.allocate) code ty ≡ Some f → HasBody code f
allocate_body code (Record t) f valid is = in_record code t f (slice_get code.records.items t) valid refl is
allocate_body code Integer f valid is = absurd (cc)
allocate_body code Count f valid is = absurd (cc)
allocate_body code Boolean f valid is = absurd (cc)
allocate_body code Address f valid is = absurd (cc)
allocate_body code Handle f valid is = absurd (cc)
allocate_body code (Access a) f valid is = absurd (cc)

-- What stands there before ------------------------------------------------------------------------------

-- it is asked for an allocator without a value
pub asks_over : (code : Code) (old ready : Engine) (place first : ℕ) (stack : List Kind) (s : State) (more : List ℕ) → s.mode ≡ T.At (first_display (heads_of s.world.activations)) place → Leads code (place + 1) (over_numbers 4 stack) → Inside code (kept old) stack s.control s.operands s.world
    → first ≡ first_window (reverse old.masters.items) + height stack → kept ready ≡ with_cells (kept old) (old.cells.items ++ more) → AsksAllocate code ready place first s
asks_over code old ready place first stack s more mode leads i begins is = record {
  mode = mode;
  stack = stack;
  leads = leads;
  inside = subst (λ (z : Kept). Inside code z stack s.control s.operands s.world) (sym is) (record { stands = i.stands; sized = i.sized; holds = more_cells code (kept old) more s.control s.operands s.world i.holds; spots = i.spots });
  cell = begins ∙ ap (λ (z : Kept). first_window z.masters + height stack) (sym is);
}

-- there is room in the window for what stands before the next instruction
pub next_within : (code : Code) (e : Engine) (place : ℕ) (stack over : List Kind) (k : List T.Frame) (ops : List Word) (w : World) → IsValid code → Inside code (kept e) stack k ops w → Leads code (place + 1) over → first_window (reverse e.masters.items) + height over ≤ length e.cells.items
next_within code e place stack over k ops w valid i leads =
    let room = room_for code.room (reverse e.masters.items) (length e.cells.items) i.holds.room in
    let fits = valid.room (place + 1) over leads in
    omega (arith, room, fits)

-- behind the operands that stay
pub begins_over : (code : Code) (e : Engine) (place first : ℕ) (s : State) → (a : AsksAllocate code e place first s) → first ≡ tall s.control (heads_of s.world.activations) + length s.operands
begins_over code e place first s a = a.cell ∙ place_is (window_in a.inside)

-- The call -----------------------------------------------------------------------------------------------

-- what the table calls it for
abbrev pub allocate_call : ℕ → ℕ → ℕ → ℕ → Object → State → StorageCall
allocate_call place f units set o s = record {
  object = o;
  address = 0;
  units = units;
  body = f;
  copies = 2;
  point = behind_declaration (Scalar o.number ∷ Scalar set ∷ s.operands) (here_of place s);
  control = s.control;
  world = s.world;
}

-- the numbers of the collection and of the pool are the newest operands
numbers_hold : (code : Code) (e : Kept) (k : List T.Frame) (ops : List Word) (w : World) (set pool at : ℕ) → Holds code e k ops w → at ≡ tall k (heads_of w.activations) + length ops → at + 1 < length e.cells → Holds code (with_cells e (with_numbers at set pool e.cells)) k (Scalar pool ∷ Scalar set ∷ ops) w
numbers_hold code e k ops w set pool at h there within =
    let once = operand_put code e k ops w (Scalar set) at h there (omega (arith, within)) in
    let long = length_set e.cells at set in
    operand_put code (with_cells e (slice_set e.cells at set)) k (Scalar set ∷ ops) w (Scalar pool) (at + 1) once (omega (arith, there)) (omega (arith, within, long))

pub calls_allocate : (code : Code) (old ready : Engine) (place units set f home first base : ℕ) (entry : Entry) (o : Object) (s : State) → (a : AsksAllocate code old place first s) → IsObject old.owned.items old.stock.objects o.number home o
    → slice_get code.entries.items f ≡ Some entry → storage_formals ≤ entry.slots → base ≡ first + 2 → first + 1 < length old.cells.items
    → kept ready ≡ with_cells (kept old) (with_numbers first set o.number old.cells.items) → CallsStorage code ready entry home base (AfterOf.Procedure (place + 1) 2) (allocate_call place f units set o s)
calls_allocate code old ready place units set f home first base entry o s a part found slots begins within is =
    let w = s.world in
    let k = s.control in
    let ops : List Word = Scalar o.number ∷ Scalar set ∷ s.operands in
    let there = begins_over code old place first s a in
    record {
      holds = subst (λ (z : Kept). Holds code z k ops w) (sym is) (numbers_hold code (kept old) k s.operands w set o.number first a.inside.holds there within);
      spots = ap (λ (z : Kept). z.spots) is ∙ a.inside.spots;
      stack = Operand Integer ∷ Operand Integer ∷ a.stack;
      leads = a.leads;
      sized = a.inside.sized;
      seen = refl;
      leads_to = refl;
      window = omega (arith, there, begins);
      home = home_shown code (kept old) k s.operands w o.origin a.inside.holds ∙ part.home;
      body = found;
      slots = slots;
      few = omega arith;
    }

-- the table calls it, where the size is not too large
pub table_calls : (code : Code) (units set f place : ℕ) (o : Object) (s : State) → units ≤ integer_last
    → call_allocate code units set o f s.operands (here_of place s) ≡ enter_body (slice_get code.entries.items f) (Allocate o.number units ∷ []) (home_of o.origin s.world) (storage_actuals o.number 0 units) (AfterProcedure 2 (allocate_call place f units set o s).point) s.control s.world
table_calls code units set f place o s few = by (nat_lt integer_last units) refl
  where
    entered : T.Move
    entered = enter_body (slice_get code.entries.items f) (Allocate o.number units ∷ []) (home_of o.origin s.world) (storage_actuals o.number 0 units) (AfterProcedure 2 (allocate_call place f units set o s).point) s.control s.world

    by : (b : Bool) → nat_lt integer_last units ≡ b → (if b then transfers (ByRaise constraint_error) s.control s.world else entered) ≡ entered
    by true is = absurd (let more : integer_last < units = grind (arith, nat_tests, is) in omega (arith, more, few))
    by false is = refl

-- and raises Constraint_Error where it is
pub too_large : (code : Code) (old new : Engine) (place first units set f : ℕ) (o : Object) (s : State) → AsksAllocate code old place first s → integer_last < units → GoesOn old new (ModeOf.Transfers (WayOf.Raise 0)) old.cells.items
    → Makes code old new (call_allocate code units set o f s.operands (here_of place s))
unfolding constraint_error
too_large code old new place first units set f o s a more goes =
    let is : nat_lt integer_last units ≡ true = grind (arith, nat_tests, more) in
    rw (is) (transfers_makes code old new (WayOf.Raise 0) tt a.stack s.control s.operands s.world a.inside goes)

-- The pool object ------------------------------------------------------------------------------------------

-- an object that is found by a number has it
pub found_number : (n : ℕ) (objects : List Object) (o : Object) → object_in n objects ≡ Some o → o.number ≡ n
unfolding opened_lists opened_objects
found_number n [] o found = absurd (cc)
found_number n (x ∷ xs) o found = by (found_number n xs o) (nat_eq x.number n) refl found
  where
    by : (object_in n xs ≡ Some o → o.number ≡ n) → (b : Bool) → nat_eq x.number n ≡ b → cond b (Some x) (object_in n xs) ≡ Some o → o.number ≡ n
    by older true is e =
        let same : x ≡ o = cc in
        let number : x.number ≡ n = grind (arith, nat_tests, is) in
        subst (λ (y : Object). y.number ≡ n) same number
    by older false is e = older e

-- it is the one whose master is known
pub object_there : (owned : List Owned) (objects : List Object) (n home : ℕ) (o : Object) → object_in n objects ≡ Some o → (x : Object) × IsObject owned objects n home x → IsObject owned objects o.number home o
object_there owned objects n home o found part =
    let same : part.0 ≡ o = same_at part.0 o (object_in n objects) part.1.found found in
    subst (λ k. IsObject owned objects k home o) (sym (found_number n objects o found)) (subst (λ (x : Object). IsObject owned objects n home x) same part.1)

-- what the table calls, by what is known of it
pub call_is : (code : Code) (place f units other set : ℕ) (o : Object) (s : State) {at : ℕ} → at ≡ place → operation_for (λ x. x.allocate) code o.ty ≡ Some f → other ≡ set
    → allocate_call at (unwrap_or (operation_for (λ x. x.allocate) code o.ty) 0) units other o s ≡ allocate_call place f units set o s
call_is code place f units other set o s {at} here is same =
    ap (λ k. allocate_call k (unwrap_or (operation_for (λ x. x.allocate) code o.ty) 0) units other o s) here
    ∙ (ap (λ x. allocate_call place (unwrap_or x 0) units other o s) is
    ∙ ap (λ n. allocate_call place f units n o s) same)

pub length_numbers : (cell set pool : ℕ) (cells : List ℕ) → length (with_numbers cell set pool cells) ≡ length cells
length_numbers cell set pool cells = length_set (slice_set cells cell set) (cell + 1) pool ∙ length_set cells cell set
