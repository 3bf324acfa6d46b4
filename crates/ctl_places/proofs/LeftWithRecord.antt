-- A master none of whose objects is a layer any more is closed, where a value waits, or that of a record is given.
use Rattle.std.proofs.Common.{◌≡◌, ℕ, ◌<◌, List, [], ◌∷◌, ◌++◌, Option, Some, None, Bool, true, false, arith, length, refl, sym, ap, ◌∙◌, subst, reverse, drop, take}
use Rattle.std.specs.Prelude.{if◌then◌else◌}
use Rattle.std.proofs.lemmas.List.{append-nil, length-append}
use Rattle.ctl_meaning.specs.Finalization.{Spot}
use Rattle.ctl_meaning.specs.World.{Layer, World, Slot}
use Rattle.ctl_meaning.specs.Activations.{activation_at, slots_in}
use Rattle.ctl_meaning.specs.Changes.{close_master}
use Rattle.ctl_meaning.specs.Outcome as O
use Rattle.ctl_meaning.specs.Outcome.{Result, Done, program_error}
use Rattle.ctl_code.specs.declared.code.Code.{Code}
use Rattle.ctl_code.specs.declared.code.Way.TheVariants as WayOf
use Rattle.ctl_code.specs.States as T
use Rattle.ctl_code.specs.States.{Move}
use Rattle.ctl_code.specs.Table.{next_layer, pending_with}
use Rattle.ctl_code.specs.Fits.{Behind}
use Rattle.ctl_code.specs.Valid.{IsValid}
use Rattle.ctl_objects.specs.Stock.{Stock}
use Rattle.ctl_engine.specs.declared.engine.Engine.{Engine}
use Rattle.ctl_frames.specs.declared.frame.After.{After}
use Rattle.ctl_frames.specs.declared.frame.After.TheVariants as AfterOf
use Rattle.ctl_frames.specs.declared.frame.Completion.{Completion}
use Rattle.ctl_frames.specs.declared.frame.Completion.TheVariants.{Transferred}
use Rattle.ctl_frames.specs.declared.frame.Formal.{Formal}
use Rattle.ctl_frames.specs.declared.frame.Frame.{Frame}
use Rattle.ctl_frames.specs.declared.frame.Frame.TheVariants as FrameOf
use Rattle.ctl_frames.specs.declared.frame.Master.{Master}
use Rattle.ctl_frames.specs.declared.frame.Mode.{Mode}
use Rattle.ctl_frames.specs.declared.frame.Owned.{Owned}
use Rattle.ctl_engine.specs.Departing.{Departed, Departs, frame_of, with_top}
use Rattle.ctl_frames.specs.Masters.{Head, heads_of, layers_from}
use Rattle.ctl_engine.specs.Moves.{Closes, Makes}
use Rattle.ctl_frames.specs.Owned.{remaining, set_numbers}
use Rattle.ctl_engine.specs.Returning.{cell_behind, cell_by, cell_given, record_behind, record_by, record_given, result_cells, returned_cells, spots_behind, waits_further, with_record}
use Rattle.ctl_engine.specs.Shows.{IsResult, Wait, leaving_waits, kept, mode_behind, result_in, with_spots, written_at, Kept}
use Rattle.ctl_frames.specs.Spots.{last_value, standing, value_spot, with_returned}
use Rattle.ctl_frames.specs.Under.{aside}
use Rattle.ctl_engine.proofs.Behind as There
use Rattle.ctl_engine.proofs.Behind.{ComesBehind}
use Rattle.ctl_engine.proofs.Closed.{DropsPools, without_master}
use Rattle.ctl_engine.proofs.Departures.{left_of}
use Rattle.ctl_engine.proofs.Entered.{take_front}
use Rattle.ctl_places.proofs.LeftOwner.{comes_behind, table_closes}
use Rattle.ctl_frames.proofs.Lists.{length_set}
use Rattle.ctl_frames.proofs.Newest.{first_or}
use Rattle.ctl_places.proofs.RecordsBehind.{given_makes, record_within, with_given}
use Rattle.ctl_engine.proofs.Ways.{plain_spots, result_here, result_in_is, result_is}

-- The value that waits -----------------------------------------------------------------------------------------

-- where the statements were completed by one, and no finalization has failed, it waits
pub still_waits : (failed : Bool) (r : Result Done) (c : Completion) (spots parts : List Spot) → IsResult c (pending_with failed r) → spots ≡ with_returned r parts → c ≡ Transferred WayOf.ReturnRecord → spots ≡ with_returned (pending_with failed r) parts
still_waits false r c spots parts is there waits = there
still_waits true r c spots parts is there waits =
    let h = subst (λ (d : Completion). IsResult d (O.Leaves (O.ByRaise program_error))) waits is in
    let v = h.2 in
    let f : O.Leaves (O.ByRaise program_error) ≡ O.Leaves (O.ByReturn (v.0 ∷ v.1 ∷ v.2)) = h.1 ∙ ap (λ (y : O.Way). O.Leaves y) v.3 in
    absurd (cc)

pub some_waits : (c : Completion) (r : Result Done) (spots parts : List Spot) → IsResult c r → (c ≡ Transferred WayOf.ReturnRecord → spots ≡ with_returned r parts) → c ≡ Transferred WayOf.ReturnRecord → 0 < length spots
some_waits c r spots parts is there waits =
    let h = subst (λ (d : Completion). IsResult d r) waits is in
    let v = h.2 in
    let x = value_spot (v.0 ∷ v.1 ∷ v.2) in
    let here : spots ≡ parts ++ x ∷ [] = there waits ∙ ap (λ (y : Result Done). with_returned y parts) (h.1 ∙ ap (λ (y : O.Way). O.Leaves y) v.3) in
    let long = ap (λ (l : List Spot). length l) here in
    let both = length-append parts (x ∷ []) in
    omega (arith, long, both)

-- and is what the machine reads
pub result_given : (c : Completion) (r : Result Done) (spots parts : List Spot) → IsResult c r → (c ≡ Transferred WayOf.ReturnRecord → spots ≡ with_returned r parts) → result_in spots c ≡ r
result_given (Transferred WayOf.ReturnRecord) r spots parts is there = result_here (Transferred WayOf.ReturnRecord) r spots parts is (there refl)
result_given c r spots parts is there = result_in_is spots c tt ∙ sym (result_is c r tt is)

-- the same cells are returned
cells_are : (c : Completion) (spots : List Spot) → returned_cells c (last_value spots) ≡ result_cells (result_in spots c)
cells_are (Transferred WayOf.ReturnRecord) spots = refl
cells_are c spots = refl

-- what stands behind the master, by that
pub record_is : (after : After) (c : Completion) (spots : List Spot) → record_by after c (last_value spots) ≡ record_behind after (result_in spots c)
record_is after c spots = ap (λ (v : Option (List ℕ)). record_given after v) (cells_are c spots)

pub cell_is : (after : After) (c : Completion) (spots : List Spot) → cell_by after c (last_value spots) ≡ cell_behind after (result_in spots c)
cell_is after c spots = ap (λ (v : Option (List ℕ)). cell_given after v) (cells_are c spots)

-- The parts that are left ----------------------------------------------------------------------------------------

pub cut_returned : (r : Result Done) (parts : List Spot) → take (length parts) (with_returned r parts) ≡ parts
cut_returned (O.Leaves (O.ByReturn (x ∷ z ∷ v))) parts = take_front parts (value_spot (x ∷ z ∷ v) ∷ [])
cut_returned r parts = ap (λ (l : List Spot). take (length parts) l) (sym (append-nil parts)) ∙ take_front parts []

-- with the value that is given
pub parts_given : (after : After) (c : Completion) (r : Result Done) (spots parts : List Spot) (count : ℕ) → IsResult c r → (c ≡ Transferred WayOf.ReturnRecord → spots ≡ with_returned r parts) → take count spots ≡ parts
    → with_record (record_behind after r) (if waits_further after c then spots else take count spots) ≡ spots_behind after r parts
parts_given (AfterOf.Procedure place copies) c r spots parts count is there cut = cut
parts_given (AfterOf.Function place) c r spots parts count is there cut = cut
parts_given AfterOf.Body c r spots parts count is there cut = cut
parts_given (AfterOf.Record place cells) c r spots parts count is there cut = ap (λ (l : List Spot). with_record (record_behind (AfterOf.Record place cells) r) l) cut
parts_given (AfterOf.Block place) (Transferred WayOf.ReturnRecord) r spots parts count is there cut = there refl
parts_given (AfterOf.Block place) c r spots parts count is there cut = cut ∙ sym (plain_spots c r parts tt is)

-- the cell is there that its value is put into
pub given_within : (code : Code) (e : Kept) (after : After) (after' : T.After) (slots : List Slot) (k : List T.Frame) (w : World) (m : Master) (r : Result Done) (x : ℕ) → ComesBehind code e after after' slots k w m → cell_behind after r ≡ Some x → m.base < length e.cells
given_within code e (AfterOf.Function place) after' slots k w m r x b is = There.cell_behind code e (AfterOf.Function place) after' slots k w m place b refl
given_within code e (AfterOf.Record place cells) (T.AfterFunction (Some cells') p) slots k w m r x b is = record_within code e place cells cells' p slots k w m b
given_within code e (AfterOf.Record place cells) (T.AfterFunction None p) slots k w m r x b is = absurd b.leads
given_within code e (AfterOf.Record place cells) (T.AfterBlock p) slots k w m r x b is = absurd b.leads
given_within code e (AfterOf.Record place cells) (T.AfterProcedure copies p) slots k w m r x b is = absurd b.leads
given_within code e (AfterOf.Record place cells) T.AfterBody slots k w m r x b is = absurd b.leads
given_within code e (AfterOf.Block place) after' slots k w m r x b is = absurd (cc)
given_within code e (AfterOf.Procedure place copies) after' slots k w m r x b is = absurd (cc)
given_within code e AfterOf.Body after' slots k w m r x b is = absurd (cc)

-- What is known before it is closed ------------------------------------------------------------------------------

-- how its statements were completed, and what stands where it was entered
pub record IsDone (old : Engine) (failed : Bool) (after : After) (c : Completion) (t : Departed) (m : Master) : Type 0 where
  pub result : IsResult c (pending_with failed t.pending)
  pub waits : c ≡ Transferred WayOf.ReturnRecord → old.spots.items ≡ with_returned (pending_with failed t.pending) (standing t.control (aside t.after))
  pub cut : take m.spots old.spots.items ≡ standing t.control (aside t.after)

newest_waits : (code : Code) (old : Engine) (failed : Bool) (pending : Completion) (after : After) (next : ℕ) (t : Departed) (m : Master) (ms : List Master) → Departs code old failed pending after next t → reverse old.masters.items ≡ m ∷ ms
    → Wait (FrameOf.Leaving failed pending after next ∷ drop 1 (reverse old.control.items)) (m ∷ ms) (heads_of t.world.activations) old.owned.items (frame_of t ∷ t.control)
newest_waits code old failed pending after next t m ms d is =
    subst (λ (l : List Master). Wait (FrameOf.Leaving failed pending after next ∷ drop 1 (reverse old.control.items)) l (heads_of t.world.activations) old.owned.items (frame_of t ∷ t.control)) is d.holds.waits

mark_of : {failed : Bool} {pending : Completion} {after : After} {next : ℕ} {fs : List Frame} {m : Master} {ms : List Master} {hs : List Head} {owned : List Owned} {n : ℕ} {ls : List Layer} {failed' : Bool} {r : Result Done} {after' : T.After} {k : List T.Frame}
    → Wait (FrameOf.Leaving failed pending after next ∷ fs) (m ∷ ms) hs owned (T.Leaving n ls failed' r after' ∷ k) → m.spots ≡ length (standing k (aside after'))
mark_of (leaving_waits i l w) = i.mark

pub is_done : (code : Code) (old : Engine) (failed : Bool) (pending c : Completion) (after : After) (next : ℕ) (t : Departed) (m : Master) (ms : List Master) → Departs code old failed pending after next t → reverse old.masters.items ≡ m ∷ ms
    → ((r : Result Done) → IsResult pending r → IsResult c (pending_with failed r)) → IsDone old failed after c t m
is_done code old failed pending c after next t m ms d is stands =
    let w = newest_waits code old failed pending after next t m ms d is in
    let left = (left_of w).1 in
    let parts = standing t.control (aside t.after) in
    let result = stands t.pending left.pending in
    let mark = mark_of w in
    record {
      result = result;
      waits = λ e. still_waits failed t.pending c old.spots.items parts result d.spots e;
      cut = ap (λ n. take n old.spots.items) mark ∙ (ap (λ (l : List Spot). take (length parts) l) d.spots ∙ cut_returned t.pending parts);
    }

-- It is closed -----------------------------------------------------------------------------------------------------

pub length_written : (cell : Option ℕ) (base : ℕ) (cells : List ℕ) → length (written_at cell base cells) ≡ length cells
length_written None base cells = refl
length_written (Some x) base cells = length_set cells base x

-- what had been forgotten before
pub record IsSame (old cut : Engine) : Type 0 where
  pub control : cut.control.items ≡ old.control.items
  pub masters : cut.masters.items ≡ old.masters.items
  pub formals : cut.formals.items ≡ old.formals.items
  pub saved : cut.saved.items ≡ old.saved.items
  pub noted : cut.noted.items ≡ old.noted.items
  pub given_masters : cut.given_masters ≡ old.given_masters
  pub numbered : cut.numbered ≡ old.numbered

-- the machine then, with these cells and these parts
pub closed_to : (old cut new : Engine) (top : Frame) (mode : Mode) (m : Master) (ms : List Master) (row : List ℕ) (parts : List Spot) → reverse old.masters.items ≡ m ∷ ms → IsSame old cut
    → cut.owned.items ≡ take m.owned old.owned.items → cut.stock.objects ≡ remaining m.number (set_numbers (drop m.owned old.owned.items)) old.stock.objects → cut.stock.needs ≡ old.stock.needs → Closes cut new mode cut.cells.items
    → record (without_master (drop 1 (reverse old.control.items)) m ms cut.stock (with_top top (kept old))) { cells = row; spots = parts } ≡ record (kept new) { cells = row; spots = parts }
closed_to old cut new top mode m ms row parts is same owned objects needs o =
    let control : reverse new.control.items ≡ drop 1 (reverse old.control.items) = sym (ap (λ (l : List Frame). drop 1 l) (ap (λ (l : List Frame). reverse l) (sym same.control) ∙ o.control.1)) in
    let there : m ∷ ms ≡ o.masters.0 ∷ reverse new.masters.items = sym is ∙ (ap (λ (l : List Master). reverse l) (sym same.masters) ∙ o.masters.1) in
    let masters : reverse new.masters.items ≡ ms = sym (ap (λ (l : List Master). drop 1 l) there) in
    let first : o.masters.0 ≡ m = sym (ap (λ (l : List Master). first_or m l) there) in
    let formals : new.formals.items ≡ take m.outer_formals old.formals.items = o.masters.2 ∙ (ap (λ (x : Master). take x.outer_formals cut.formals.items) first ∙ ap (λ (l : List Formal). take m.outer_formals l) same.formals) in
    let saved : new.saved.items ≡ old.saved.items = o.saved ∙ same.saved in
    let noted : new.noted.items ≡ old.noted.items = o.noted ∙ same.noted in
    let given_masters : new.given_masters ≡ old.given_masters = o.given_masters ∙ same.given_masters in
    let numbered : new.numbered ≡ old.numbered = o.numbered ∙ same.numbered in
    rw (control, masters, o.owned, owned, formals, o.stock, objects, needs, saved, noted, given_masters, numbered) refl

pub closes_given : (code : Code) (old new : Engine) (failed : Bool) (pending c : Completion) (after : After) (next : ℕ) (t : Departed) (m : Master) (ms : List Master) (x : Stock)
    → IsValid code → Departs code old failed pending after next t → Behind code t.after t.control → reverse old.masters.items ≡ m ∷ ms → layers_from m.owned old.owned.items ≡ [] → DropsPools m x (kept old) → IsDone old failed after c t m
    → (let r = pending_with failed t.pending in let parts = standing t.control (aside t.after) in let e = without_master (drop 1 (reverse old.control.items)) m ms x (with_top (FrameOf.Leaving failed pending after next) (kept old)) in
    kept new ≡ with_given after r m parts (with_spots e parts)) → new.mode ≡ mode_behind after c → new.events.items ≡ old.events.items → new.picks.items ≡ old.picks.items
    → Makes code old new (next_layer code t.master t.layers t.failed t.pending t.after t.control t.world)
closes_given code old new failed pending c after next t m ms x valid d fits is none gone done kept_is mode events picks =
    let r = pending_with failed t.pending in
    let parts = standing t.control (aside t.after) in
    let left = (left_of (newest_waits code old failed pending after next t m ms d is)).1 in
    let b = comes_behind code old failed pending after next t m ms x valid d fits is gone parts refl in
    subst (λ (y : Move). Makes code old new y) (sym (table_closes code t.master t.layers failed t.failed t.pending t.pending r t.after t.control t.world (left.layers ∙ none) left.failed refl refl))
    (given_makes code old new (with_spots (without_master (drop 1 (reverse old.control.items)) m ms x (with_top (FrameOf.Leaving failed pending after next) (kept old))) parts) after t.after c r (slots_in (activation_at t.master t.world.activations)) t.control (close_master t.master t.world) m done.result b
    kept_is mode events picks)
