-- A component of an object takes a value.
use Rattle.std.proofs.Common.{◌≡◌, ℕ, ◌+◌, ◌<◌, List, [], ◌∷◌, ◌++◌, Option, Some, None, drop, length, refl, sym, ap, ◌∙◌, subst, ◌⊎◌, inl, inr}
use Rattle.std.specs.Prelude.{slice_get}
use Rattle.std.proofs.lemmas.Option.{slice_get_within}
use Rattle.ctl_tree.specs.declared.ending.Stop.TheVariants.{UseAfterFree}
use Rattle.ctl_program.specs.declared.types.Ty.{Ty}
use Rattle.ctl_program.specs.declared.types.Ty.TheVariants.{Record}
use Rattle.ctl_meaning.specs.World as W
use Rattle.ctl_meaning.specs.World.{World}
use Rattle.ctl_meaning.specs.Objects.{change_in, object_in, with_cells}
use Rattle.ctl_meaning.specs.Changes.{object_at, write_cells, opened_changes}
use Rattle.ctl_code.specs.declared.kinds.Kind.{Kind}
use Rattle.ctl_code.specs.declared.kinds.Kind.TheVariants.{Operand}
use Rattle.ctl_code.specs.declared.code.Code.{Code}
use Rattle.ctl_code.specs.declared.code.Cell.{Cell}
use Rattle.ctl_code.specs.declared.code.Instr.TheVariants.{StorePart}
use Rattle.ctl_code.specs.States.{Word, State, Frame, Move, Stuck, Scalar, Located, Cells}
use Rattle.ctl_code.specs.Table.{Here, by_instr, offset_of, quiet, store_into, stored, taking, gone, on_top}
use Rattle.ctl_code.specs.Valid.{Leads}
use Rattle.ctl_engine.specs.declared.engine.Engine.{Engine}
use Rattle.ctl_frames.specs.declared.frame.Mode.TheVariants as ModeOf
use Rattle.ctl_engine.specs.Finishing.{with_objects}
use Rattle.ctl_frames.specs.Masters.{first_display, heads_of}
use Rattle.ctl_engine.specs.Shows.{Kept, Holds, kept, with_spots}
use Rattle.ctl_frames.specs.Spots.{first_spot, standing}
use Rattle.ctl_engine.specs.Moves.{Before, Inside, Makes, GoesOn, here_of}
use Rattle.ctl_engine.proofs.Computed.{cell_of, same_value}
use Rattle.ctl_places.proofs.Located.{goes_keeping, top_is}
use Rattle.ctl_engine.proofs.Operands.{has_part, part_there}
use Rattle.ctl_engine.proofs.Owned.{cells_keep, holds_changed, object_shown}
use Rattle.ctl_places.proofs.Touched.{gone_makes}
use Rattle.ctl_engine.proofs.Values.{taken}
use Rattle.ctl_engine.specs.RecordValues.{IsPart, IsValue}

-- the table's move, by the first cell of the component
abbrev store_move : Cell → ℕ → ℕ → State → Move
store_move from offset place s = taking from.named (λ x rest. on_top (λ y below. store_into offset x y below (here_of place s)) rest (here_of place s)) s.operands (here_of place s)

-- the operands below the value
abbrev pub parts_of : Cell → State → List Word
parts_of from s = (taking from.named (λ x rest. quiet Stuck [] rest s.world) s.operands (here_of 0 s)).operands

-- the value, and the part below it
pub record IsGiven (code : Code) (e : Engine) (place : ℕ) (s : State) (from : Cell) (t position : ℕ) (ty : Ty) : Type 0 where
  pub below : List Kind
  pub value : ℕ
  pub value_read : slice_get e.cells.items (cell_of e from) ≡ Some value
  pub leads : Leads code (place + 1) below
  pub spots : e.spots.items ≡ standing s.control (drop 1 (parts_of from s)) ++ first_spot (parts_of from s) ∷ []
  pub holds : Holds code (kept e) s.control (parts_of from s) s.world
  pub left : Inside code (with_spots (kept e) (standing s.control (drop 1 (parts_of from s)))) below s.control (drop 1 (parts_of from s)) s.world
  pub either : IsPart (parts_of from s) ⊎ IsValue (parts_of from s)
  pub move : (offset : ℕ) → IsPart (parts_of from s) → store_move from offset place s ≡ store_into offset value (Located (first_spot (parts_of from s))) (drop 1 (parts_of from s)) (here_of place s)
  pub none : (offset : ℕ) → IsValue (parts_of from s) → store_move from offset place s ≡ gone s.control s.world

-- the value of a record takes none
stores_none : (offset x : ℕ) (ops : List Word) (h : Here) → IsValue ops → on_top (λ y below. store_into offset x y below h) ops h ≡ gone h.control h.world
stores_none offset x (Cells v ∷ ops) h is = refl
stores_none offset x (Located m ∷ ops) h is = absurd is
stores_none offset x (Scalar n ∷ ops) h is = absurd is
stores_none offset x [] h is = absurd is

pub is_given : (code : Code) (e : Engine) (place : ℕ) (s : State) (from : Cell) (t position : ℕ) (ty : Ty) → Before code e place (StorePart from ty t position) s → IsGiven code e place s from t position ty
is_given code e place s from t position ty b =
    let drops = b.fine.1.2 in
    let v = taken code (kept e) from ty b.stack b.fine.1.0 s.control s.operands s.world b.fine.0 b.inside b.fine.1.1 in
    let rest : parts_of from s ≡ v.rest = ap (λ (m : Move). m.operands) (v.takes (λ x rest. quiet Stuck [] rest s.world) 0) in
    let i : Inside code (kept e) (Operand (Record t) ∷ drops.0) s.control (parts_of from s) s.world = subst (λ (l : List Word). Inside code (kept e) (Operand (Record t) ∷ drops.0) s.control l s.world) (sym rest) (subst (λ (l : List Kind). Inside code (kept e) l s.control v.rest s.world) drops.1 v.left) in
    let p = has_part code (kept e) t drops.0 s.control (parts_of from s) s.world i in
    let h = here_of place s in
    record {
      below = drops.0;
      value = v.value;
      value_read = v.read;
      leads = drops.2;
      spots = p.spots;
      holds = i.holds;
      left = p.left;
      either = p.either;
      move = λ offset is. v.takes (λ x rest. on_top (λ y below. store_into offset x y below h) rest h) place
          ∙ (ap (λ (l : List Word). on_top (λ y below. store_into offset v.value y below h) l h) (sym rest)
          ∙ top_is (λ y below. store_into offset v.value y below h) (parts_of from s) h is);
      none = λ offset is. v.takes (λ x rest. on_top (λ y below. store_into offset x y below h) rest h) place
          ∙ (ap (λ (l : List Word). on_top (λ y below. store_into offset v.value y below h) l h) (sym rest)
          ∙ stores_none offset v.value (parts_of from s) h is);
    }

pub value_within : (code : Code) (e : Engine) (place : ℕ) (s : State) (from : Cell) (t position : ℕ) (ty : Ty) → Before code e place (StorePart from ty t position) s → cell_of e from < length e.cells.items
value_within code e place s from t position ty b = let i = is_given code e place s from t position ty b in slice_get_within e.cells.items (cell_of e from) i.value i.value_read

-- with this value in a cell of an object
abbrev pub stored_in : ℕ → ℕ → ℕ → Kept → Kept
stored_in n at x e = with_objects (change_in n (with_cells at (x ∷ [])) e.objects) e

-- a component of an object that is there takes a value, and this is left
pub stored_makes : (code : Code) (old new : Engine) (place : ℕ) (below : List Kind) (k : List Frame) (rest : List Word) (w : World) (n at x : ℕ) (o : W.Object) → Leads code (place + 1) below → Inside code (with_spots (kept old) (standing k rest)) below k rest w → object_in n old.stock.objects ≡ Some o
    → new.mode ≡ ModeOf.At (place + 1) → kept new ≡ with_spots (stored_in n at x (kept old)) (standing k rest) → new.events.items ≡ old.events.items → new.picks.items ≡ old.picks.items
    → Makes code old new (stored n at x (object_at n w) rest (record { display = first_display (heads_of w.activations); place = place; control = k; world = w }))
unfolding opened_changes
stored_makes code old new place below k rest w n at x o leads left there mode kept_is events picks =
    let h : Here = record { display = first_display (heads_of w.activations); place = place; control = k; world = w } in
    let e = with_spots (kept old) (standing k rest) in
    let object : object_at n w ≡ Some o = object_shown code e k rest w n left.holds ∙ there in
    let inside : Inside code (stored_in n at x e) below k rest (write_cells n at (x ∷ []) w) = record {
      stands = left.stands;
      sized = left.sized;
      holds = holds_changed code e k rest w n (with_cells at (x ∷ [])) (cells_keep at (x ∷ [])) left.holds;
      spots = refl;
    } in
    subst (λ z. Makes code old new (stored n at x z rest h)) (sym object)
    (goes_keeping code old new (stored_in n at x e) (place + 1) below k rest (write_cells n at (x ∷ []) w) leads inside mode kept_is events picks)

pub part_makes : (code : Code) (old new : Engine) (place : ℕ) (s : State) (from : Cell) (t position offset x : ℕ) (ty : Ty) (o : W.Object) → Before code old place (StorePart from ty t position) s
    → slice_get old.cells.items (cell_of old from) ≡ Some x → (let y = first_spot (parts_of from s) in object_in y.object old.stock.objects ≡ Some o
    → new.mode ≡ ModeOf.At (place + 1) → kept new ≡ with_spots (stored_in y.object (y.offset + offset) x (kept old)) (standing s.control (drop 1 (parts_of from s))) → new.events.items ≡ old.events.items → new.picks.items ≡ old.picks.items
    → (t' position' : ℕ) (ty' : Ty) → offset ≡ offset_of code t' position' → Makes code old new (by_instr code (Some (StorePart from ty' t' position')) s.operands (here_of place s)))
part_makes code old new place s from t position offset x ty o b value_read there mode kept_is events picks t' position' ty' same =
    let i = is_given code old place s from t position ty b in
    let y = first_spot (parts_of from s) in
    let rest = drop 1 (parts_of from s) in
    let value : x ≡ i.value = same_value x i.value (slice_get old.cells.items (cell_of old from)) value_read i.value_read in
    let part = part_there code (kept old) s.control (parts_of from s) (parts_of from s) s.world o i.holds i.either there in
    subst (λ c. Makes code old new (store_move from c place s)) same
    (subst (λ (m : Move). Makes code old new m) (sym (i.move offset part))
    (subst (λ c. Makes code old new (store_into offset c (Located y) rest (here_of place s))) value
    (stored_makes code old new place i.below s.control rest s.world y.object (y.offset + offset) x o i.leads i.left there mode kept_is events picks)))

pub store_gone : (code : Code) (old new : Engine) (place : ℕ) (s : State) (from : Cell) (t position offset : ℕ) (ty : Ty) → Before code old place (StorePart from ty t position) s
    → object_in (first_spot (parts_of from s)).object old.stock.objects ≡ None → GoesOn old new (ModeOf.Stopped UseAfterFree) old.cells.items
    → (t' position' : ℕ) (ty' : Ty) → offset ≡ offset_of code t' position' → Makes code old new (by_instr code (Some (StorePart from ty' t' position')) s.operands (here_of place s))
store_gone code old new place s from t position offset ty b none g t' position' ty' same =
    let i = is_given code old place s from t position ty b in
    let y = first_spot (parts_of from s) in
    let rest = drop 1 (parts_of from s) in
    let object = object_shown code (kept old) s.control (parts_of from s) s.world y.object i.holds ∙ none in
    let stops = gone_makes code old new s.control (parts_of from s) s.world i.holds g in
    let by : IsPart (parts_of from s) ⊎ IsValue (parts_of from s) → store_move from offset place s ≡ gone s.control s.world = λ top. elim top [
      | inl is ↦ i.move offset is ∙ ap (λ (z : Option W.Object). stored y.object (y.offset + offset) i.value z rest (here_of place s)) object
      | inr is ↦ i.none offset is
    ] in
    subst (λ c. Makes code old new (store_move from c place s)) same (subst (λ (m : Move). Makes code old new m) (sym (by i.either)) stops)
