-- What comes behind a master that is left, where a value waits, or that of a record is given (6.5).
use Rattle.std.proofs.Common.{◌≡◌, ℕ, ◌+◌, ◌<◌, List, [], ◌∷◌, ◌++◌, Option, Some, None, length, refl, sym, ap, ◌∙◌, subst, drop}
use Rattle.std.proofs.lemmas.List.{append-nil}
use Rattle.std.specs.Prelude.{slice_set}
use Rattle.ctl_program.specs.declared.types.Ty.{Ty}
use Rattle.ctl_program.specs.declared.types.Ty.TheVariants.{Integer, Count, Boolean, Address, Handle, Access, Record}
use Rattle.ctl_meaning.specs.World.{World, Slot}
use Rattle.ctl_meaning.specs.Lists.{item_or}
use Rattle.ctl_meaning.specs.Finalization.{Spot}
use Rattle.ctl_meaning.specs.Names.{scalar_of}
use Rattle.ctl_meaning.specs.Objects as Objects
use Rattle.ctl_meaning.specs.Outcome as O
use Rattle.ctl_meaning.specs.Outcome.{ByRaise, Result, Done, program_error}
use Rattle.ctl_code.specs.declared.kinds.Kind.{Kind}
use Rattle.ctl_code.specs.declared.kinds.Kind.TheVariants.{Operand}
use Rattle.ctl_code.specs.declared.code.Code.{Code}
use Rattle.ctl_code.specs.declared.code.Way.TheVariants as WayOf
use Rattle.ctl_code.specs.Fits.{IsGiven}
use Rattle.ctl_code.specs.States as T
use Rattle.ctl_code.specs.States.{Cells}
use Rattle.ctl_code.specs.Table.{behind, on_at, transfers}
use Rattle.ctl_code.specs.Valid.{IsValid, Leads}
use Rattle.ctl_code.specs.Windows.{height}
use Rattle.ctl_engine.specs.declared.engine.Engine.{Engine}
use Rattle.ctl_frames.specs.declared.frame.After.{After}
use Rattle.ctl_frames.specs.declared.frame.After.TheVariants as AfterOf
use Rattle.ctl_frames.specs.declared.frame.Completion.{Completion}
use Rattle.ctl_frames.specs.declared.frame.Completion.TheVariants.{Transferred}
use Rattle.ctl_frames.specs.declared.frame.Master.{Master}
use Rattle.ctl_frames.specs.declared.frame.Mode.{Mode}
use Rattle.ctl_frames.specs.declared.frame.Mode.TheVariants as ModeOf
use Rattle.ctl_frames.specs.Masters.{heads_of, first_window}
use Rattle.ctl_engine.specs.Moves.{Inside, Makes}
use Rattle.ctl_engine.specs.Returning.{GivesNoRecord, cell_behind, spots_behind}
use Rattle.ctl_engine.specs.Shows.{IsPlainly, IsResult, Kept, Sized, ShowsMode, Holds, kept, mode_behind, result_of, value_behind, with_cells, with_spots, written_at}
use Rattle.ctl_frames.specs.Spots.{KeepsSpots, carried, located, spots_in, standing, value_spot}
use Rattle.ctl_frames.specs.Under.{aside}
use Rattle.ctl_engine.proofs.Behind.{ComesBehind, ShowsMove, function_goes, procedure_goes, raises_on, same_stack, shows_behind}
use Rattle.ctl_places.proofs.Located.{located_put}
use Rattle.ctl_engine.proofs.Operands.{other_spots}
use Rattle.ctl_engine.proofs.Places.{place_is}
use Rattle.ctl_engine.proofs.Plain.{no_operands, sized_inside}
use Rattle.ctl_engine.proofs.Values.{window_in}
use Rattle.ctl_engine.proofs.Ways.{none_returned, result_is}

-- the machine then: the cell of the value stands where those of the master began, and these parts stand there, with what is given
abbrev pub with_given : After → Result Done → Master → List Spot → Kept → Kept
with_given after r m parts e = record e { cells = written_at (cell_behind after r) m.base e.cells; spots = spots_behind after r parts }

-- Behind the call of a function that gives a record ------------------------------------------------------------

is_record : (cells : ℕ) (ty : Ty) → IsGiven (Some cells) ty → (t : ℕ) × (ty ≡ Record t)
is_record cells (Record t) is = (t, refl)
is_record cells Integer is = absurd is
is_record cells Count is = absurd is
is_record cells Boolean is = absurd is
is_record cells Address is = absurd is
is_record cells Handle is = absurd is
is_record cells (Access a) is = absurd is

-- what stands below its value
record BelowRecord (code : Code) (e : Kept) (p : T.Point) (k : List T.Frame) (w : World) : Type 0 where
  pub stack : List Kind
  pub type : ℕ
  pub leads : Leads code p.place (Operand (Record type) ∷ stack)
  pub inside : Inside code e stack k p.operands w

below_record : (code : Code) (e : Kept) (place cells cells' : ℕ) (p : T.Point) (slots : List Slot) (k : List T.Frame) (w : World) (m : Master) → ComesBehind code e (AfterOf.Record place cells) (T.AfterFunction (Some cells') p) slots k w m → BelowRecord code e p k w
below_record code e place cells cells' p slots k w m b =
    let fits = b.fits in
    let sized = b.sized in
    let same : sized.0 ≡ fits.0 = ap (λ (l : List Kind). drop 1 l) (same_stack code p.place (Operand sized.1 ∷ sized.0) (Operand fits.1 ∷ fits.0) sized.2 fits.3) in
    let is = is_record cells' fits.1 fits.2 in
    record {
      stack = fits.0;
      type = is.0;
      leads = subst (λ (ty : Ty). Leads code p.place (Operand ty ∷ fits.0)) is.1 fits.3;
      inside = record {
        stands = fits.4;
        sized = subst (λ (l : List Kind). Sized code l k (heads_of w.activations)) same sized.3;
        holds = b.holds;
        spots = b.spots;
      };
    }

record_raises : (code : Code) (e : Kept) (place cells cells' : ℕ) (p : T.Point) (x : ℕ) (slots : List Slot) (k : List T.Frame) (w : World) (m : Master) → ComesBehind code e (AfterOf.Record place cells) (T.AfterFunction (Some cells') p) slots k w m
    → ShowsMove code (with_spots e (standing k p.operands)) (ModeOf.Transfers (WayOf.Raise x)) (transfers (ByRaise x) k w)
record_raises code e place cells cells' p x slots k w m b =
    let v = below_record code e place cells cells' p slots k w m b in
    raises_on code (with_spots e (standing k p.operands)) x v.stack k p.operands w v.inside.stands v.inside.sized (other_spots code e (standing k p.operands) k p.operands w b.holds) refl

-- its value is the newest operand
abbrev with_value_at : ℕ → List ℕ → List Spot → Kept → Kept
with_value_at at v parts e = record e { cells = slice_set e.cells at 1; spots = parts ++ value_spot v ∷ [] }

value_put : (code : Code) (e : Kept) (p : T.Point) (v : List ℕ) (k : List T.Frame) (w : World) (base : ℕ) → IsValid code → (b : BelowRecord code e p k w) → first_window e.masters + height b.stack ≡ base
    → Inside code (with_value_at base v (standing k p.operands) e) (Operand (Record b.type) ∷ b.stack) k (Cells v ∷ p.operands) w
value_put code e p v k w base valid b there =
    let at = height b.stack in
    let top = Operand (Record b.type) ∷ b.stack in
    let put : Inside code (with_value_at (first_window e.masters + at) v e.spots e) top k (Cells v ∷ p.operands) w = (located_put code e p.place b.type at b.stack k p.operands w (Cells v) valid b.inside refl b.leads tt).1 in
    subst (λ n. Inside code (with_value_at n v (standing k p.operands) e) top k (Cells v ∷ p.operands) w) there
    (subst (λ (l : List Spot). Inside code (with_value_at (first_window e.masters + at) v l e) top k (Cells v ∷ p.operands) w) b.inside.spots put)

record_goes : (code : Code) (e : Kept) (place cells cells' : ℕ) (p : T.Point) (v : List ℕ) (slots : List Slot) (k : List T.Frame) (w : World) (m : Master) → ComesBehind code e (AfterOf.Record place cells) (T.AfterFunction (Some cells') p) slots k w m
    → ShowsMove code (with_value_at m.base (Objects.first_cells cells v) (standing k p.operands) e) (ModeOf.At place) (on_at (record p { operands = Cells (Objects.first_cells cells' v) ∷ p.operands }) k w)
record_goes code e place cells cells' p v slots k w m b =
    let below = below_record code e place cells cells' p slots k w m b in
    let leads = b.leads in
    let top = Operand (Record below.type) ∷ below.stack in
    let x = Objects.first_cells cells' v in
    let inside = value_put code e p x k w m.base b.valid below (place_is (window_in below.inside) ∙ sym b.begins) in
    let shown : ShowsMove code (with_value_at m.base x (standing k p.operands) e) (ModeOf.At place) (on_at (record p { operands = Cells x ∷ p.operands }) k w) =
    ((leads.0, leads.1, top, subst (λ n. Leads code n top) leads.0 below.leads, inside.sized), inside.holds, refl, inside.spots) in
    subst (λ n. ShowsMove code (with_value_at m.base (Objects.first_cells n v) (standing k p.operands) e) (ModeOf.At place) (on_at (record p { operands = Cells x ∷ p.operands }) k w)) leads.3 shown

-- the cell of its value is there
pub record_within : (code : Code) (e : Kept) (place cells cells' : ℕ) (p : T.Point) (slots : List Slot) (k : List T.Frame) (w : World) (m : Master) → ComesBehind code e (AfterOf.Record place cells) (T.AfterFunction (Some cells') p) slots k w m → m.base < length e.cells
record_within code e place cells cells' p slots k w m b =
    let below = below_record code e place cells cells' p slots k w m b in
    let there : first_window e.masters + height below.stack ≡ m.base = place_is (window_in below.inside) ∙ sym b.begins in
    subst (λ n. n < length e.cells) there (located_put code e p.place below.type (height below.stack) below.stack k p.operands w (Cells []) b.valid below.inside refl below.leads tt).0

-- Where no value waits ---------------------------------------------------------------------------------------

-- a function whose value is that of a record gives it
record_plainly : (code : Code) (e : Kept) (place cells cells' : ℕ) (p : T.Point) (c : Completion) (slots : List Slot) (k : List T.Frame) (w : World) (m : Master) → IsPlainly c → ComesBehind code e (AfterOf.Record place cells) (T.AfterFunction (Some cells') p) slots k w m
    → ShowsMove code (with_given (AfterOf.Record place cells) (result_of c) m (standing k p.operands) e) (mode_behind (AfterOf.Record place cells) c) (behind (T.AfterFunction (Some cells') p) (result_of c) slots k w)
unfolding program_error
record_plainly code e place cells cells' p (Transferred WayOf.Return) slots k w m plain b = record_goes code e place cells cells' p [] slots k w m b
record_plainly code e place cells cells' p (Transferred (WayOf.ReturnValue n)) slots k w m plain b = record_goes code e place cells cells' p (n ∷ []) slots k w m b
record_plainly code e place cells cells' p (Transferred WayOf.ReturnRecord) slots k w m plain b = absurd plain
record_plainly code e place cells cells' p (Transferred (WayOf.Raise x)) slots k w m plain b = record_raises code e place cells cells' p x slots k w m b
record_plainly code e place cells cells' p c slots k w m plain b = record_raises code e place cells cells' p program_error slots k w m b

-- any other leaves a cell, and no record
plain_cell : (after : After) (c : Completion) → IsPlainly c → GivesNoRecord after → value_behind after c ≡ cell_behind after (result_of c)
unfolding scalar_of item_or
plain_cell (AfterOf.Record place cells) c plain none = absurd none
plain_cell (AfterOf.Function place) (Transferred WayOf.ReturnRecord) plain none = absurd plain
plain_cell after c plain none = refl

plain_parts : (after : After) (c : Completion) (parts : List Spot) → IsPlainly c → GivesNoRecord after → parts ≡ spots_behind after (result_of c) parts
plain_parts (AfterOf.Record place cells) c parts plain none = absurd none
plain_parts (AfterOf.Block place) c parts plain none = sym (none_returned c parts plain)
plain_parts (AfterOf.Procedure place copies) c parts plain none = refl
plain_parts (AfterOf.Function place) c parts plain none = refl
plain_parts AfterOf.Body c parts plain none = refl

plainly : (code : Code) (e : Kept) (after : After) (after' : T.After) (c : Completion) (slots : List Slot) (k : List T.Frame) (w : World) (m : Master) → IsPlainly c → GivesNoRecord after → ComesBehind code e after after' slots k w m
    → ShowsMove code (with_given after (result_of c) m (standing k (aside after')) e) (mode_behind after c) (behind after' (result_of c) slots k w)
plainly code e after after' c slots k w m plain none b =
    let move = behind after' (result_of c) slots k w in
    let parts = standing k (aside after') in
    subst (λ (l : List Spot). ShowsMove code (record e { cells = written_at (cell_behind after (result_of c)) m.base e.cells; spots = l }) (mode_behind after c) move) (b.spots ∙ plain_parts after c parts plain none)
    (subst (λ (o : Option ℕ). ShowsMove code (with_cells e (written_at o m.base e.cells)) (mode_behind after c) move) (plain_cell after c plain none) (shows_behind code e after after' c slots k w m plain none b))

given_plainly : (code : Code) (e : Kept) (after : After) (after' : T.After) (c : Completion) (slots : List Slot) (k : List T.Frame) (w : World) (m : Master) → IsPlainly c → ComesBehind code e after after' slots k w m
    → ShowsMove code (with_given after (result_of c) m (standing k (aside after')) e) (mode_behind after c) (behind after' (result_of c) slots k w)
given_plainly code e (AfterOf.Record place cells) (T.AfterFunction (Some cells') p) c slots k w m plain b = record_plainly code e place cells cells' p c slots k w m plain b
given_plainly code e (AfterOf.Record place cells) (T.AfterFunction None p) c slots k w m plain b = absurd b.leads
given_plainly code e (AfterOf.Record place cells) (T.AfterBlock p) c slots k w m plain b = absurd b.leads
given_plainly code e (AfterOf.Record place cells) (T.AfterProcedure copies p) c slots k w m plain b = absurd b.leads
given_plainly code e (AfterOf.Record place cells) T.AfterBody c slots k w m plain b = absurd b.leads
given_plainly code e (AfterOf.Block place) after' c slots k w m plain b = plainly code e (AfterOf.Block place) after' c slots k w m plain tt b
given_plainly code e (AfterOf.Procedure place copies) after' c slots k w m plain b = plainly code e (AfterOf.Procedure place copies) after' c slots k w m plain tt b
given_plainly code e (AfterOf.Function place) after' c slots k w m plain b = plainly code e (AfterOf.Function place) after' c slots k w m plain tt b
given_plainly code e AfterOf.Body after' c slots k w m plain b = plainly code e AfterOf.Body after' c slots k w m plain tt b

-- Where one waits ----------------------------------------------------------------------------------------------

-- the value of a return statement, of two cells or more
abbrev of_value : List ℕ → Result Done
of_value v = O.Leaves (O.ByReturn v)

-- behind a block it waits further
block_waits : (code : Code) (e : Kept) (place : ℕ) (p : T.Point) (x z : ℕ) (v : List ℕ) (slots : List Slot) (k : List T.Frame) (w : World) (m : Master) → ComesBehind code e (AfterOf.Block place) (T.AfterBlock p) slots k w m
    → ShowsMove code (with_spots e (standing k p.operands ++ value_spot (x ∷ z ∷ v) ∷ [])) (ModeOf.Transfers WayOf.ReturnRecord) (transfers (O.ByReturn (x ∷ z ∷ v)) k w)
block_waits code e place p x z v slots k w m b =
    let fits = b.fits in
    let sized = b.sized in
    let same = same_stack code p.place sized.0 fits.0 sized.1 fits.1 in
    let parts = standing k p.operands ++ value_spot (x ∷ z ∷ v) ∷ [] in (
      ((x, z, v, refl), sized_inside code fits.0 k p.operands (heads_of w.activations) fits.3 (subst (λ (s : List Kind). Sized code s k (heads_of w.activations)) same sized.2)),
      no_operands code (with_spots e parts) k p.operands w (other_spots code e parts k p.operands w b.holds),
      refl,
      (located p.operands, refl),
    )

waits_behind : (code : Code) (e : Kept) (after : After) (after' : T.After) (x z : ℕ) (v : List ℕ) (slots : List Slot) (k : List T.Frame) (w : World) (m : Master) → ComesBehind code e after after' slots k w m
    → (let c = Transferred WayOf.ReturnRecord in let r = of_value (x ∷ z ∷ v) in ShowsMove code (with_given after r m (standing k (aside after')) e) (mode_behind after c) (behind after' r slots k w))
waits_behind code e (AfterOf.Block place) (T.AfterBlock p) x z v slots k w m b = block_waits code e place p x z v slots k w m b
waits_behind code e (AfterOf.Procedure place copies) (T.AfterProcedure copies' p) x z v slots k w m b =
    subst (λ (l : List Spot). ShowsMove code (with_spots e l) (ModeOf.At place) (behind (T.AfterProcedure copies' p) (of_value (x ∷ z ∷ v)) slots k w)) b.spots (procedure_goes code e place copies copies' p slots k w m b)
waits_behind code e (AfterOf.Function place) (T.AfterFunction None p) x z v slots k w m b =
    let n = scalar_of (x ∷ z ∷ v) in
    subst (λ (l : List Spot). ShowsMove code (record e { cells = slice_set e.cells m.base n; spots = l }) (ModeOf.At place) (behind (T.AfterFunction None p) (of_value (x ∷ z ∷ v)) slots k w)) b.spots (function_goes code e place p n slots k w m b)
waits_behind code e (AfterOf.Record place cells) (T.AfterFunction (Some cells') p) x z v slots k w m b = record_goes code e place cells cells' p (x ∷ z ∷ v) slots k w m b
waits_behind code e AfterOf.Body T.AfterBody x z v slots k w m b =
    subst (λ (l : List Spot). ShowsMove code (with_spots e l) (mode_behind AfterOf.Body (Transferred WayOf.ReturnRecord)) (behind T.AfterBody (of_value (x ∷ z ∷ v)) slots k w)) b.spots
    ((refl, b.sized), b.holds, refl, b.spots ∙ append-nil (spots_in k))
waits_behind code e _ _ x z v slots k w m b = elim b.leads [ ]

-- All of it ------------------------------------------------------------------------------------------------

pub shows_given : (code : Code) (e : Kept) (after : After) (after' : T.After) (c : Completion) (r : Result Done) (slots : List Slot) (k : List T.Frame) (w : World) (m : Master) → IsResult c r → ComesBehind code e after after' slots k w m
    → ShowsMove code (with_given after r m (standing k (aside after')) e) (mode_behind after c) (behind after' r slots k w)
shows_given code e after after' c r slots k w m is b = by c is
  where
    plain : (d : Completion) → IsPlainly d → IsResult d r → ShowsMove code (with_given after r m (standing k (aside after')) e) (mode_behind after d) (behind after' r slots k w)
    plain d p h = subst (λ (x : Result Done). ShowsMove code (with_given after x m (standing k (aside after')) e) (mode_behind after d) (behind after' x slots k w)) (sym (result_is d r p h)) (given_plainly code e after after' d slots k w m p b)

    by : (d : Completion) → IsResult d r → ShowsMove code (with_given after r m (standing k (aside after')) e) (mode_behind after d) (behind after' r slots k w)
    by (Transferred WayOf.ReturnRecord) h =
        let v = h.2 in
        let whole : r ≡ of_value (v.0 ∷ v.1 ∷ v.2) = h.1 ∙ ap (λ (y : O.Way). O.Leaves y) v.3 in
        subst (λ (x : Result Done). ShowsMove code (with_given after x m (standing k (aside after')) e) (mode_behind after (Transferred WayOf.ReturnRecord)) (behind after' x slots k w)) (sym whole) (waits_behind code e after after' v.0 v.1 v.2 slots k w m b)
    by d h = plain d tt h

-- a master that owned nothing any more has been left
pub given_makes : (code : Code) (old new : Engine) (e : Kept) (after : After) (after' : T.After) (c : Completion) (r : Result Done) (slots : List Slot) (k : List T.Frame) (w : World) (m : Master) → IsResult c r → ComesBehind code e after after' slots k w m
    → kept new ≡ with_given after r m (standing k (aside after')) e → new.mode ≡ mode_behind after c → new.events.items ≡ old.events.items → new.picks.items ≡ old.picks.items → Makes code old new (behind after' r slots k w)
given_makes code old new e after after' c r slots k w m result b is mode events picks =
    let move = behind after' r slots k w in
    let x = shows_given code e after after' c r slots k w m result b in
    record {
      mode = subst (λ (y : Mode). ShowsMode code y move.mode move.control (heads_of move.world.activations)) (sym mode) x.0;
      holds = subst (λ (y : Kept). Holds code y move.control move.operands move.world) (sym is) x.1;
      spots = subst (λ (y : Mode). KeepsSpots y new.spots.items move.control (carried move.mode move.operands)) (sym mode) (subst (λ (l : List Spot). KeepsSpots (mode_behind after c) l move.control (carried move.mode move.operands)) (sym (ap (λ (y : Kept). y.spots) is)) x.3);
      shows = events ∙ (sym (append-nil old.events.items) ∙ ap (λ es. old.events.items ++ es) (sym x.2));
      picks = picks;
    }
