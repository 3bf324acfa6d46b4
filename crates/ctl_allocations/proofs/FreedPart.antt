-- An object is freed by a component, which becomes null.
use Rattle.std.proofs.Common.{◌≡◌, ℕ, zero, suc, ◌+◌, List, [], ◌∷◌, ◌++◌, Option, Some, None, Bool, true, false, cond, drop, refl, sym, ap, ◌∙◌, subst, reverse, arith, ◌⊎◌, inl, inr}
use Rattle.std.specs.Prelude.{nat_eq, slice_get}
use Rattle.std.specs.Option.{option_map}
use Rattle.ctl_tree.specs.declared.ending.Stop.TheVariants.{UseAfterFree}
use Rattle.ctl_meaning.specs.Changes.{object_at, opened_changes, write_cells}
use Rattle.ctl_meaning.specs.Finalization.{Spot}
use Rattle.ctl_meaning.specs.Objects.{change_in, object_in, opened_objects}
use Rattle.ctl_meaning.specs.Objects as O
use Rattle.ctl_meaning.specs.World as W
use Rattle.ctl_meaning.specs.World.{World}
use Rattle.ctl_storage.proofs.Rising.{KeepsNumbers, in_change}
use Rattle.ctl_storage.specs.declared.existing.Place.{Place}
use Rattle.ctl_storage.specs.declared.existing.Place.TheVariants as PlaceOf
use Rattle.ctl_objects.specs.Pools.{KeepsShown}
use Rattle.ctl_objects.specs.Stock.{Stock}
use Rattle.ctl_storage.specs.Allocated.{place_of}
use Rattle.ctl_code.specs.declared.kinds.Kind.{Kind}
use Rattle.ctl_code.specs.declared.code.AccessHome.{AccessHome}
use Rattle.ctl_code.specs.declared.code.Code.{Code}
use Rattle.ctl_code.specs.declared.code.Instr.TheVariants.{Free, FreePart}
use Rattle.ctl_code.specs.States as T
use Rattle.ctl_code.specs.States.{Giving, Move, State, Word}
use Rattle.ctl_code.specs.Table.{Here, act, ahead, by_free, by_free_part, by_instr, cell_at, component_of, freed_by, freed_in, freed_part, free_object, gone, offset_of, return_to, says_failed}
use Rattle.ctl_engine.specs.declared.engine.Engine.{Engine}
use Rattle.ctl_frames.specs.declared.frame.Ended.{Ended}
use Rattle.ctl_frames.specs.declared.frame.Frame.{Frame}
use Rattle.ctl_frames.specs.declared.frame.Mode.TheVariants as ModeOf
use Rattle.ctl_frames.specs.declared.frame.Nulled.{Nulled}
use Rattle.ctl_frames.specs.declared.frame.Nulled.TheVariants as NulledOf
use Rattle.ctl_frames.specs.declared.frame.Storage.{Storage}
use Rattle.ctl_engine.specs.Allocating.{OwnsNone}
use Rattle.ctl_engine.specs.Finishing.{DropsFrame, with_objects}
use Rattle.ctl_places.specs.Freeing.{Freed, Frees, Gone, IsGone, IsLetGo, behind_frees, behind_instruction, by_component, by_variable, calls_back, gone_by_part, has_deallocate, part_of}
use Rattle.ctl_frames.specs.Masters.{first_display, heads_of}
use Rattle.ctl_engine.specs.Moves.{Before, BeforeResuming, GoesOn, Inside, Makes, here_of}
use Rattle.ctl_places.specs.Parts.{part_in}
use Rattle.ctl_engine.specs.Shows.{Holds, Kept, kept, nulled_of, tried_of, with_cells, with_spots, stock_of}
use Rattle.ctl_frames.specs.Spots.{first_spot, spots_in, standing}
use Rattle.ctl_lifetimes.proofs.Assignments.{stops_makes}
use Rattle.ctl_engine.proofs.Bodies.{more_cells}
use Rattle.ctl_engine.proofs.Foreign.{forgotten}
use Rattle.ctl_places.proofs.Freed.{IsFreeingIn, behind_frame, goes_forgotten, more_inside}
use Rattle.ctl_places.proofs.Located.{goes_keeping, part_on_top, read_is, locating_is, taking_none}
use Rattle.ctl_engine.proofs.Operands.{other_spots, value_gone}
use Rattle.ctl_engine.proofs.Owned.{cells_keep, holds_changed, object_shown}
use Rattle.ctl_engine.proofs.Plain.{goes_makes}
use Rattle.ctl_places.proofs.Touched.{gone_makes}
use Rattle.ctl_frames.proofs.Words.{same_front}
use Rattle.ctl_engine.proofs.Stocked.{with_stock}
use Rattle.ctl_engine.specs.RecordValues.{IsPart, IsValue}

-- The frame goes ---------------------------------------------------------------------------------------

-- the component that becomes null stands above the operands
pub record IsNulled (e : Engine) (object : ℕ) (storage : Storage) (p : T.Point) (k : List T.Frame) (s : State) : Type 0 where
  pub part : Spot
  pub is : s.control ≡ T.Freeing (T.NullPart part) object (place_of storage.place) storage.units p ∷ k
  pub spots : e.spots.items ≡ standing k p.operands ++ part ∷ []

pub nulled_part : (code : Code) (e : Engine) (object : ℕ) (storage : Storage) (place : ℕ) (fs : List Frame) (s : State) → BeforeResuming code e s → (u : IsFreeingIn e object NulledOf.Part storage place fs s) → IsNulled e object storage u.point u.waiting s
nulled_part code e object storage place fs s b u = by u.nulled_too u.is u.nulled_is
  where
    by : (x : T.Nulled) → s.control ≡ T.Freeing x object (place_of storage.place) storage.units u.point ∷ u.waiting → NulledOf.Part ≡ nulled_of x → IsNulled e object storage u.point u.waiting s
    by (T.NullVariable out slot) is same = absurd (cc)
    by (T.NullPart part) is same = record { part = part; is = is; spots = b.spots ∙ ap (λ (k : List T.Frame). spots_in k) is }

-- without the frame and the component
pub record IsDropped (old new : Engine) (fs : List Frame) (parts : List Spot) (part dropped : Spot) : Type 0 where
  pub kept : kept new ≡ behind_frame fs parts (kept old)
  pub same : dropped ≡ part

pub dropped_so : (old new : Engine) (f : Frame) (fs : List Frame) (parts : List Spot) (part dropped : Spot) → DropsFrame old new dropped → reverse old.control.items ≡ f ∷ fs → old.spots.items ≡ parts ++ part ∷ [] → IsDropped old new fs parts part dropped
dropped_so old new f fs parts part dropped d top spots =
    let rest : reverse new.control.items ≡ fs = ap (λ (l : List Frame). drop 1 l) (sym d.frame.1 ∙ top) in
    let front = same_front new.spots.items parts dropped part (sym d.spot ∙ spots) in
    record {
      kept = d.kept ∙ (ap (λ (l : List Frame). behind_frame l new.spots.items (kept old)) rest ∙ ap (λ (l : List Spot). behind_frame fs l (kept old)) front.0);
      same = front.1;
    }

gone_so : (code : Code) (part : Spot) (object : ℕ) (lies : W.Place) (units : ℕ) (failed : Bool) (y : Option W.Object) (p : T.Point) (k : List T.Frame) (w : World) → y ≡ None → freed_part code part object lies units failed y p k w ≡ freed_part code part object lies units failed None p k w
gone_so code part object lies units failed y p k w is = ap (λ z. freed_part code part object lies units failed z p k w) is

-- the object of the component is gone
pub part_stops : (code : Code) (old new : Engine) (object : ℕ) (lies : W.Place) (units : ℕ) (failed : Bool) (part : Spot) (place : ℕ) (t : Gone) → IsLetGo code old object place t → object_in part.object old.stock.objects ≡ None → new.mode ≡ ModeOf.Stopped UseAfterFree → kept new ≡ kept old
    → new.events.items ≡ old.events.items → new.picks.items ≡ old.picks.items → Makes code old new (freed_in code (T.NullPart part) object lies units failed t.point t.control t.world)
part_stops code old new object lies units failed part place t x none mode are events picks =
    let h = x.goes.first.inside.holds in
    let k = t.control in
    let p = t.point in
    let missing = object_shown code (kept old) k p.operands t.world part.object h ∙ none in
    let made = stops_makes code old new k p.operands t.world mode (subst (λ (e : Kept). Holds code e k p.operands t.world) (sym are) h) events picks in
    subst (λ (m : Move). Makes code old new m) (sym (gone_so code part object lies units failed (object_at part.object t.world) p k t.world missing)) made

-- with null in a component
abbrev pub with_null : Spot → Kept → Kept
with_null part e = with_objects (change_in part.object (O.with_cells part.offset (0 ∷ [])) e.objects) e

-- what was written
pub null_written : (written before objects : List W.Object) (number offset : ℕ) (part : Spot) → written ≡ change_in number (O.with_cells offset (0 ∷ [])) before → number ≡ part.object → offset ≡ part.offset → before ≡ objects → written ≡ change_in part.object (O.with_cells part.offset (0 ∷ [])) objects
null_written written before objects number offset part is object first same =
    is
    ∙ (ap (λ n. change_in n (O.with_cells offset (0 ∷ [])) before) object
    ∙ (ap (λ n. change_in part.object (O.with_cells n (0 ∷ [])) before) first ∙ ap (λ (l : List W.Object). change_in part.object (O.with_cells part.offset (0 ∷ [])) l) same))

pub null_inside : (code : Code) (e : Kept) (stack : List Kind) (k : List T.Frame) (ops : List Word) (w : World) (part : Spot) → Inside code e stack k ops w → Inside code (with_null part e) stack k ops (write_cells part.object part.offset (0 ∷ []) w)
unfolding opened_changes
null_inside code e stack k ops w part i = record {
  stands = i.stands;
  sized = i.sized;
  holds = holds_changed code e k ops w part.object (O.with_cells part.offset (0 ∷ [])) (cells_keep part.offset (0 ∷ [])) i.holds;
  spots = i.spots;
}

-- the same is called
mapped_called : (code : Code) (offset : ℕ) (v : List ℕ) (y : Option W.Object) → has_deallocate code (option_map (O.with_cells offset v) y) ≡ has_deallocate code y
unfolding opened_objects
mapped_called code offset v None = refl
mapped_called code offset v (Some o) = refl

keeps_number : (offset : ℕ) (v : List ℕ) → KeepsNumbers (O.with_cells offset v)
unfolding opened_objects
keeps_number offset v o = refl

pub null_called : (code : Code) (place : Place) (number offset : ℕ) (v : List ℕ) (objects : List W.Object) → calls_back code place (change_in number (O.with_cells offset v) objects) ≡ calls_back code place objects
null_called code PlaceOf.Standard number offset v objects = refl
null_called code (PlaceOf.InBlock block) number offset v objects =
    ap (has_deallocate code) (in_change number (O.with_cells offset v) (keeps_number offset v) block.pool objects) ∙ by (nat_eq block.pool number)
  where
    by : (b : Bool) → has_deallocate code (cond b (option_map (O.with_cells offset v) (object_in block.pool objects)) (object_in block.pool objects)) ≡ has_deallocate code (object_in block.pool objects)
    by true = mapped_called code offset v (object_in block.pool objects)
    by false = refl

same_display : (part : Spot) (w : World) (P : List W.Activation → Type 0) → P w.activations → P (write_cells part.object part.offset (0 ∷ []) w).activations
unfolding opened_changes
same_display part w P x = x

there_so : (code : Code) (part : Spot) (object : ℕ) (lies : W.Place) (units : ℕ) (failed : Bool) (y : Option W.Object) (o : W.Object) (p : T.Point) (k : List T.Frame) (w : World) → y ≡ Some o → freed_part code part object lies units failed y p k w ≡ freed_part code part object lies units failed (Some o) p k w
there_so code part object lies units failed y o p k w is = ap (λ z. freed_part code part object lies units failed z p k w) is

-- where it goes on, once the component is null and the object is gone
pub part_gone : (code : Code) (old new : Engine) (object place : ℕ) (part : Spot) (t : Gone) (nulled : Stock) → IsLetGo code old object place t → with_stock nulled (kept old) ≡ with_null part (kept old) → kept new ≡ with_stock new.stock (kept old) → new.stock.objects ≡ forgotten object nulled.objects
    → new.stock ≡ record nulled { objects = new.stock.objects; blocks = new.stock.blocks } → KeepsShown nulled new.stock → IsGone code new place (gone_by_part object part t)
part_gone code old new object place part t nulled x nulls are objects same still =
    let f = x.goes.first in
    let k = t.control in
    let p = t.point in
    let e = with_null part (kept old) in
    let w = write_cells part.object part.offset (0 ∷ []) t.world in
    let i = null_inside code (kept old) f.stack k p.operands t.world part f.inside in
    let seen : p.display ≡ first_display (heads_of w.activations) = same_display part t.world (λ acts. p.display ≡ first_display (heads_of acts)) f.seen in
    goes_forgotten code new e object place f.stack p k w f.leads x.goes.next i x.foreign f.there seen (are ∙ ap (λ (y : Kept). with_stock new.stock y) nulls) (subst (λ (y : Kept). new.stock.objects ≡ forgotten object y.objects) nulls objects)
    (subst (λ (y : Kept). new.stock ≡ record (stock_of y) { objects = new.stock.objects; blocks = new.stock.blocks }) nulls same) (subst (λ (y : Kept). KeepsShown (stock_of y) new.stock) nulls still)

-- and what the table makes of it
pub part_made : (code : Code) (old new : Engine) (object : ℕ) (lies : W.Place) (units : ℕ) (failed : Bool) (part : Spot) (place : ℕ) (t : Gone) (o : W.Object) → IsLetGo code old object place t → object_in part.object old.stock.objects ≡ Some o
    → (let g = gone_by_part object part t in Makes code old new (freed_by code units failed (return_to code lies g.world) g.point g.control g.world)) → Makes code old new (freed_in code (T.NullPart part) object lies units failed t.point t.control t.world)
part_made code old new object lies units failed part place t o x found made =
    let there = object_shown code (kept old) t.control t.point.operands t.world part.object x.goes.first.inside.holds ∙ found in
    subst (λ (m : Move). Makes code old new m) (sym (there_so code part object lies units failed (object_at part.object t.world) o t.point t.control t.world there)) made

-- behind its frame
pub part_ends : (code : Code) (old new : Engine) (ended : Ended) (object : ℕ) (storage : Storage) (p : T.Point) (k : List T.Frame) (s : State) → IsNulled old object storage p k s
    → (let t = behind_frees s.control s.world in Makes code old new (freed_in code (T.NullPart (part_of s.control)) object (place_of storage.place) storage.units (says_failed (tried_of ended)) t.point t.control t.world))
    → Makes code old new (act code (Giving (tried_of ended)) s.control s.operands s.world 0)
part_ends code old new ended object storage p k s x made =
    let failed = says_failed (tried_of ended) in
    subst (λ (l : List T.Frame). Makes code old new (act code (Giving (tried_of ended)) l s.operands s.world 0)) (sym x.is)
    (subst (λ (l : List T.Frame). (let t = behind_frees l s.world in Makes code old new (freed_in code (T.NullPart (part_of l)) object (place_of storage.place) storage.units failed t.point t.control t.world))) x.is made)

-- By an instruction ------------------------------------------------------------------------------------

-- with further cells, which mean nothing
pub frees_more : (code : Code) (old new : Engine) (nulled : Nulled) (t : Freed) (more : List ℕ) → Frees code old nulled t → kept new ≡ with_cells (kept old) (old.cells.items ++ more) → Frees code new nulled t
frees_more code old new nulled t more f is =
    let k = t.state.control in
    let w = t.state.world in
    let parts = standing k t.operands in
    record {
      nulled_is = f.nulled_is;
      stack = f.stack;
      leads = f.leads;
      before = subst (λ (e : Kept). Holds code e k t.state.operands w) (sym is) (more_cells code (kept old) more k t.state.operands w f.before);
      inside = record {
        stands = f.inside.stands;
        sized = f.inside.sized;
        holds = subst (λ (e : Kept). Holds code (with_spots e parts) k t.operands w) (sym is) (more_cells code (with_spots (kept old) parts) more k t.operands w f.inside.holds);
        spots = refl;
      };
      spots = λ n. ap (λ (e : Kept). e.spots) is ∙ f.spots n;
    }

-- a variable
pub variable_frees : (code : Code) (old : Engine) (access out slot place : ℕ) (s : State) → Before code old place (Free access out slot) s → Frees code old (NulledOf.Variable out slot) (by_variable out slot place s)
variable_frees code old access out slot place s b = record {
  nulled_is = refl;
  stack = b.stack;
  leads = b.fine.1;
  before = b.inside.holds;
  inside = record {
    stands = b.inside.stands;
    sized = b.inside.sized;
    holds = other_spots code (kept old) (standing s.control s.operands) s.control s.operands s.world b.inside.holds;
    spots = refl;
  };
  spots = λ n. b.inside.spots;
}

-- where it goes on
pub variable_lets_go : (code : Code) (old new : Engine) (access out slot place object : ℕ) (s : State) (more : List ℕ) → Before code old place (Free access out slot) s → OwnsNone object old.owned.items → kept new ≡ with_cells (kept old) (old.cells.items ++ more)
    → IsLetGo code new object (place + 1) (behind_instruction (by_variable out slot place s))
variable_lets_go code old new access out slot place object s more b none are = record {
  goes = record {
    first = record {
      stack = b.stack;
      leads = b.fine.1;
      inside = subst (λ (e : Kept). Inside code e b.stack s.control s.operands s.world) (sym are) (more_inside code (kept old) more b.stack s.control s.operands s.world b.inside);
      there = refl;
      seen = refl;
    };
    next = b.fine.2;
  };
  foreign = subst (λ (e : Kept). OwnsNone object e.owned) (sym are) none;
}

-- a component
pub component_frees : (code : Code) (old new : Engine) (access place t position : ℕ) (part : Spot) (s : State) → Before code old place (FreePart access t position) s → kept new ≡ with_spots (kept old) (standing s.control (drop 1 s.operands) ++ part ∷ [])
    → Frees code new NulledOf.Part (by_component part place s)
component_frees code old new access place t position part s b is =
    let p = part_on_top code old t b.stack b.fine.1.0 s b.inside b.fine.1.1 in
    let k = s.control in
    let rest = drop 1 s.operands in
    let spots = standing k rest ++ part ∷ [] in
    record {
      nulled_is = refl;
      stack = b.fine.1.0;
      leads = b.fine.1.2.0;
      before = subst (λ (e : Kept). Holds code e k s.operands s.world) (sym is) (other_spots code (kept old) spots k s.operands s.world b.inside.holds);
      inside = record {
        stands = p.left.stands;
        sized = p.left.sized;
        holds = subst (λ (e : Kept). Holds code (with_spots e (standing k rest)) k rest s.world) (sym is) p.left.holds;
        spots = refl;
      };
      spots = λ n. ap (λ (e : Kept). e.spots) is;
    }

-- where it goes on
pub component_lets_go : (code : Code) (old new : Engine) (access place t position object : ℕ) (part : Spot) (s : State) (more : List ℕ) → Before code old place (FreePart access t position) s → OwnsNone object old.owned.items
    → kept new ≡ with_spots (with_cells (kept old) (old.cells.items ++ more)) (standing s.control (drop 1 s.operands)) → IsLetGo code new object (place + 1) (behind_instruction (by_component part place s))
component_lets_go code old new access place t position object part s more b none are =
    let p = part_on_top code old t b.stack b.fine.1.0 s b.inside b.fine.1.1 in
    let rest = drop 1 s.operands in
    record {
      goes = record {
        first = record {
          stack = b.fine.1.0;
          leads = b.fine.1.2.0;
          inside = subst (λ (e : Kept). Inside code e b.fine.1.0 s.control rest s.world) (sym are) (more_inside code (with_spots (kept old) (standing s.control rest)) more b.fine.1.0 s.control rest s.world p.left);
          there = refl;
          seen = refl;
        };
        next = b.fine.1.2.1;
      };
      foreign = subst (λ (e : Kept). OwnsNone object e.owned) (sym are) none;
    }

two_behind : (place : ℕ) → place + 2 ≡ place + 1 + 1
two_behind place = omega arith

-- null designates no object
by_none : (code : Code) (nulled : T.Nulled) (v : Option AccessHome) (n : ℕ) (ops : List Word) (h : Here) → n ≡ 0 → by_free code nulled v n ops h ≡ ahead 1 ops h.world h
by_none code nulled v n ops h is = ap (λ m. by_free code nulled v m ops h) is

by_some : (code : Code) (nulled : T.Nulled) (v : Option AccessHome) (n : ℕ) (ops : List Word) (h : Here) → (n ≡ 0 → ⊥) → by_free code nulled v n ops h ≡ free_object code nulled v (object_at n h.world) ops h
by_some code nulled v zero ops h some = absurd (some refl)
by_some code nulled v (suc n) ops h some = refl

pub variable_null : (code : Code) (old new : Engine) (access out slot place n : ℕ) (s : State) → Before code old place (Free access out slot) s → n ≡ cell_at (first_display (heads_of s.world.activations)) out slot s.world → n ≡ 0 → GoesOn old new (ModeOf.At (place + 2)) old.cells.items
    → Makes code old new (by_instr code (Some (Free access out slot)) s.operands (here_of place s))
variable_null code old new access out slot place n s b read none goes =
    subst (λ (m : Move). Makes code old new m) (sym (by_none code (T.NullVariable out slot) (slice_get code.accesses.items access) (cell_at (first_display (heads_of s.world.activations)) out slot s.world) s.operands (here_of place s) (sym read ∙ none)))
    (goes_makes code old new (place + 1 + 1) b.stack s.control s.operands s.world old.cells.items b.fine.2 b.inside (subst (λ n. GoesOn old new (ModeOf.At n) old.cells.items) (two_behind place) goes))

pub variable_some : (code : Code) (old new : Engine) (access out slot place n : ℕ) (s : State) → n ≡ cell_at (first_display (heads_of s.world.activations)) out slot s.world → (n ≡ 0 → ⊥)
    → Makes code old new (free_object code (T.NullVariable out slot) (slice_get code.accesses.items access) (object_at n s.world) s.operands (here_of place s)) → Makes code old new (by_instr code (Some (Free access out slot)) s.operands (here_of place s))
variable_some code old new access out slot place n s read some made =
    subst (λ m. Makes code old new (by_free code (T.NullVariable out slot) (slice_get code.accesses.items access) m s.operands (here_of place s))) read
    (subst (λ (m : Move). Makes code old new m) (sym (by_some code (T.NullVariable out slot) (slice_get code.accesses.items access) n s.operands (here_of place s) some)) made)

-- the table's move, once the component is read
abbrev part_read : Code → Spot → Option AccessHome → Option ℕ → List Word → Here → Move
part_read code part v None ops h = gone h.control h.world
part_read code part v (Some n) ops h = by_free code (T.NullPart part) v n ops h

read_part : (code : Code) (part : Spot) (v : Option AccessHome) (y : Option W.Object) (ops : List Word) (h : Here) → by_free_part code part v y ops h ≡ part_read code part v (part_in part.offset y) ops h
read_part code part v None ops h = refl
read_part code part v (Some o) ops h = refl

-- the component of the part that is the newest operand
abbrev pub component : Code → ℕ → ℕ → State → Spot
component code t position s = component_of (first_spot s.operands) (offset_of code t position) position

-- what was read of it
pub component_read : (code : Code) (t position : ℕ) (s : State) (r : Option ℕ) (start number offset : ℕ) (x : Spot) → r ≡ part_in (start + offset) (object_at number s.world) → start ≡ x.offset → number ≡ x.object → x ≡ first_spot s.operands → offset ≡ offset_of code t position
    → (let z = component code t position s in r ≡ part_in z.offset (object_at z.object s.world))
component_read code t position s r start number offset x read first object same is =
    let y = first_spot s.operands in
    read_is r start number offset x y s.world read first object same ∙ ap (λ n. part_in (y.offset + n) (object_at y.object s.world)) is

part_move : (code : Code) (old : Engine) (access place t position : ℕ) (s : State) (r : Option ℕ) → Before code old place (FreePart access t position) s → (let x = component code t position s in r ≡ part_in x.offset (object_at x.object s.world)
    → by_instr code (Some (FreePart access t position)) s.operands (here_of place s) ≡ part_read code x (slice_get code.accesses.items access) r (drop 1 s.operands) (here_of place s))
part_move code old access place t position s r b read =
    let p = part_on_top code old t b.stack b.fine.1.0 s b.inside b.fine.1.1 in
    by p.either
  where
    by : IsPart s.operands ⊎ IsValue s.operands → by_instr code (Some (FreePart access t position)) s.operands (here_of place s) ≡ part_read code (component code t position s) (slice_get code.accesses.items access) r (drop 1 s.operands) (here_of place s)
    by (inl is) =
        let h = here_of place s in
        let x = component code t position s in
        let v = slice_get code.accesses.items access in
        locating_is (λ y rest. let z = component_of y (offset_of code t position) position in by_free_part code z v (object_at z.object s.world) rest h) s.operands h is
        ∙ (read_part code x v (object_at x.object s.world) (drop 1 s.operands) h ∙ ap (λ z. part_read code x v z (drop 1 s.operands) h) (sym read))
    by (inr is) =
        let h = here_of place s in
        let x = component code t position s in
        let v = slice_get code.accesses.items access in
        let none : object_at x.object s.world ≡ None = object_shown code (kept old) s.control s.operands s.world x.object b.inside.holds ∙ value_gone code (kept old) s.control s.operands s.operands s.world b.inside.holds is in
        taking_none (λ y rest. let z = component_of y (offset_of code t position) position in by_free_part code z v (object_at z.object s.world) rest h) s.operands h is
        ∙ ap (λ z. part_read code x v z (drop 1 s.operands) h) (sym (read ∙ ap (λ o. part_in x.offset o) none))

pub component_gone : (code : Code) (old new : Engine) (access place t position : ℕ) (s : State) → Before code old place (FreePart access t position) s → (let x = component code t position s in None ≡ part_in x.offset (object_at x.object s.world))
    → GoesOn old new (ModeOf.Stopped UseAfterFree) old.cells.items → Makes code old new (by_instr code (Some (FreePart access t position)) s.operands (here_of place s))
component_gone code old new access place t position s b none goes =
    subst (λ (m : Move). Makes code old new m) (sym (part_move code old access place t position s None b none)) (gone_makes code old new s.control s.operands s.world b.inside.holds goes)

pub component_null : (code : Code) (old new : Engine) (access place t position n : ℕ) (s : State) → Before code old place (FreePart access t position) s → (let x = component code t position s in Some n ≡ part_in x.offset (object_at x.object s.world)) → n ≡ 0
    → new.mode ≡ ModeOf.At (place + 2) → kept new ≡ with_spots (kept old) (standing s.control (drop 1 s.operands)) → new.events.items ≡ old.events.items → new.picks.items ≡ old.picks.items
    → Makes code old new (by_instr code (Some (FreePart access t position)) s.operands (here_of place s))
component_null code old new access place t position n s b read none mode are events picks =
    let p = part_on_top code old t b.stack b.fine.1.0 s b.inside b.fine.1.1 in
    let h = here_of place s in
    let x = component code t position s in
    let rest = drop 1 s.operands in
    subst (λ (m : Move). Makes code old new m) (sym (part_move code old access place t position s (Some n) b read ∙ by_none code (T.NullPart x) (slice_get code.accesses.items access) n rest h none))
    (goes_keeping code old new (with_spots (kept old) (standing s.control rest)) (place + 1 + 1) b.fine.1.0 s.control rest s.world b.fine.1.2.1 p.left (mode ∙ ap (λ n. ModeOf.At n) (two_behind place)) are events picks)

pub component_some : (code : Code) (old new : Engine) (access place t position n : ℕ) (s : State) → Before code old place (FreePart access t position) s → (let x = component code t position s in Some n ≡ part_in x.offset (object_at x.object s.world) → (n ≡ 0 → ⊥)
    → Makes code old new (free_object code (T.NullPart x) (slice_get code.accesses.items access) (object_at n s.world) (drop 1 s.operands) (here_of place s)) → Makes code old new (by_instr code (Some (FreePart access t position)) s.operands (here_of place s)))
component_some code old new access place t position n s b read some made =
    subst (λ (m : Move). Makes code old new m)
    (sym (part_move code old access place t position s (Some n) b read ∙ by_some code (T.NullPart (component code t position s)) (slice_get code.accesses.items access) n (drop 1 s.operands) (here_of place s) some)) made
