-- The object that an access value designates takes the place of the value (4.1).
use Rattle.std.proofs.Common.{◌≡◌, ◌≢◌, ℕ, zero, suc, ◌+◌, ◌<◌, List, [], ◌∷◌, ◌++◌, Some, None, length, refl, sym, ap, ◌∙◌, subst, reverse}
use Rattle.std.proofs.lemmas.List.{append_assoc}
use Rattle.std.proofs.lemmas.Option.{slice_get_within}
use Rattle.std.specs.Prelude.{Option, slice_get}
use Rattle.ctl_tree.specs.declared.ending.Stop.TheVariants.{UseAfterFree}
use Rattle.ctl_program.specs.declared.types.Ty.TheVariants.{Integer, Record}
use Rattle.ctl_meaning.specs.Changes.{object_at}
use Rattle.ctl_meaning.specs.Finalization.{Spot}
use Rattle.ctl_meaning.specs.Objects.{object_in}
use Rattle.ctl_meaning.specs.Outcome.{constraint_error}
use Rattle.ctl_meaning.specs.World as W
use Rattle.ctl_meaning.specs.World.{World}
use Rattle.ctl_code.specs.declared.kinds.Kind.{Kind}
use Rattle.ctl_code.specs.declared.kinds.Kind.TheVariants.{Operand}
use Rattle.ctl_code.specs.declared.code.Code.{Code}
use Rattle.ctl_code.specs.declared.code.Instr.TheVariants.{Dereference}
use Rattle.ctl_code.specs.declared.code.Way.TheVariants as WayOf
use Rattle.ctl_code.specs.States as T
use Rattle.ctl_code.specs.States.{Word, Scalar, Located, Move, State}
use Rattle.ctl_code.specs.Table.{Here, by_dereference, by_instr, designated}
use Rattle.ctl_engine.specs.declared.engine.Engine.{Engine}
use Rattle.ctl_frames.specs.declared.frame.Mode.TheVariants as ModeOf
use Rattle.ctl_frames.specs.Masters.{first_window}
use Rattle.ctl_engine.specs.Moves.{Before, GoesOn, Inside, Makes, here_of}
use Rattle.ctl_engine.specs.Shows.{Kept, Holds, kept, with_spots}
use Rattle.ctl_frames.specs.Spots.{located, spots_in, whole_spot}
use Rattle.ctl_engine.proofs.Computed.{same_value}
use Rattle.ctl_places.proofs.Located.{goes_keeping}
use Rattle.ctl_engine.proofs.Operands.{IsNewest, is_newest, other_spots}
use Rattle.ctl_engine.proofs.Owned.{object_shown}
use Rattle.ctl_engine.proofs.Plain.{transfers_makes}
use Rattle.ctl_places.proofs.Touched.{gone_makes}

-- the access value on top
pub access_on_top : (code : Code) (e : Engine) (place t at : ℕ) (s : State) → (b : Before code e place (Dereference t at) s) → IsNewest code (kept e) at b.fine.0 s.control s.operands s.world
access_on_top code e place t at s b = is_newest code (kept e) at Integer b.fine.0 s.control s.operands s.world tt (subst (λ (l : List Kind). Inside code (kept e) l s.control s.operands s.world) b.fine.1 b.inside) b.fine.2.0

pub access_within : (code : Code) (e : Engine) (place t at : ℕ) (s : State) → Before code e place (Dereference t at) s → first_window (reverse e.masters.items) + at < length e.cells.items
access_within code e place t at s b =
    let n = access_on_top code e place t at s b in
    slice_get_within e.cells.items (first_window (reverse e.masters.items) + at) n.value n.read

-- what the table makes of it, once it is read
dereference_move : (code : Code) (e : Engine) (place t at x : ℕ) (s : State) → (b : Before code e place (Dereference t at) s) → slice_get e.cells.items (first_window (reverse e.masters.items) + at) ≡ Some x
    → (t' : ℕ) → by_instr code (Some (Dereference t' at)) s.operands (here_of place s) ≡ by_dereference x (access_on_top code e place t at s b).rest (here_of place s)
dereference_move code e place t at x s b read t' =
    let n = access_on_top code e place t at s b in
    ap (λ (l : List Word). by_instr code (Some (Dereference t' at)) l (here_of place s)) n.are
    ∙ ap (λ y. by_dereference y n.rest (here_of place s)) (same_value n.value x (slice_get e.cells.items (first_window (reverse e.masters.items) + at)) n.read read)

-- null designates nothing
pub null_makes : (code : Code) (old new : Engine) (place t at : ℕ) (s : State) → Before code old place (Dereference t at) s → slice_get old.cells.items (first_window (reverse old.masters.items) + at) ≡ Some 0
    → GoesOn old new (ModeOf.Transfers (WayOf.Raise 0)) old.cells.items → (t' : ℕ) → Makes code old new (by_instr code (Some (Dereference t' at)) s.operands (here_of place s))
unfolding constraint_error
null_makes code old new place t at s b read g t' =
    let n = access_on_top code old place t at s b in
    subst (λ (m : Move). Makes code old new m) (sym (dereference_move code old place t at 0 s b read t')) (transfers_makes code old new (WayOf.Raise 0) tt b.fine.0 s.control n.rest s.world n.left g)

-- any other value designates the object of its number
number_designates : (x : ℕ) (ops : List Word) (h : Here) → x ≢ 0 → by_dereference x ops h ≡ designated x (object_at x h.world) ops h
number_designates zero ops h some = absurd (some refl)
number_designates (suc x) ops h some = refl

designated_move : (code : Code) (e : Engine) (place t at x : ℕ) (s : State) (o : Option W.Object) → (b : Before code e place (Dereference t at) s) → slice_get e.cells.items (first_window (reverse e.masters.items) + at) ≡ Some x → x ≢ 0 → object_in x e.stock.objects ≡ o
    → (t' : ℕ) → by_instr code (Some (Dereference t' at)) s.operands (here_of place s) ≡ designated x o (access_on_top code e place t at s b).rest (here_of place s)
designated_move code e place t at x s o b read some found t' =
    let n = access_on_top code e place t at s b in
    let h = here_of place s in
    dereference_move code e place t at x s b read t'
    ∙ (number_designates x n.rest h some
    ∙ ap (λ (y : Option W.Object). designated x y n.rest h) (object_shown code (kept e) s.control s.operands s.world x b.inside.holds ∙ found))

-- it has ceased to exist
pub designated_gone : (code : Code) (old new : Engine) (place t at x : ℕ) (s : State) → Before code old place (Dereference t at) s → slice_get old.cells.items (first_window (reverse old.masters.items) + at) ≡ Some x → x ≢ 0 → object_in x old.stock.objects ≡ None
    → GoesOn old new (ModeOf.Stopped UseAfterFree) old.cells.items → (t' : ℕ) → Makes code old new (by_instr code (Some (Dereference t' at)) s.operands (here_of place s))
designated_gone code old new place t at x s b read some none g t' =
    subst (λ (m : Move). Makes code old new m) (sym (designated_move code old place t at x s None b read some none t')) (gone_makes code old new s.control s.operands s.world b.inside.holds g)

-- a whole object stands in the cell where its number stood
in_place : (code : Code) (e : Kept) (k : List T.Frame) (x : ℕ) (ops : List Word) (w : World) → Holds code e k (Scalar x ∷ ops) w → Holds code e k (Located (whole_spot x) ∷ ops) w
in_place code e k x ops w h = record {
  cells = h.cells;
  room = h.room;
  masters = h.masters;
  below = h.below;
  waits = h.waits;
  objects = h.objects;
  needs = h.needs;
  pools = h.pools;
  owns = h.owns;
  held = h.held;
  rise = h.rise;
  next_master = h.next_master;
  next_object = h.next_object;
  next_collection = h.next_collection;
  collections = h.collections;
  left = h.left;
  saved = h.saved;
  noted = h.noted;
}

-- with one part more
abbrev pub with_part : Spot → Kept → Kept
with_part s e = with_spots e (e.spots ++ s ∷ [])

designated_there : (code : Code) (e : Kept) (t x : ℕ) (below : List Kind) (k : List T.Frame) (ops : List Word) (w : World) → Inside code e below k ops w → Holds code e k (Scalar x ∷ ops) w → Inside code (with_part (whole_spot x) e) (Operand (Record t) ∷ below) k (Located (whole_spot x) ∷ ops) w
designated_there code e t x below k ops w i h =
    let s = whole_spot x in
    record {
      stands = (tt, i.stands);
      sized = i.sized;
      holds = other_spots code e (e.spots ++ s ∷ []) k (Located s ∷ ops) w (in_place code e k x ops w h);
      spots = ap (λ (l : List Spot). l ++ s ∷ []) i.spots ∙ append_assoc (spots_in k) (located ops) (s ∷ []);
    }

pub designated_makes : (code : Code) (old new : Engine) (place t at x : ℕ) (s : State) (o : W.Object) → Before code old place (Dereference t at) s → slice_get old.cells.items (first_window (reverse old.masters.items) + at) ≡ Some x → x ≢ 0 → object_in x old.stock.objects ≡ Some o
    → new.mode ≡ ModeOf.At (place + 1) → kept new ≡ with_part (whole_spot x) (kept old) → new.events.items ≡ old.events.items → new.picks.items ≡ old.picks.items
    → (t' : ℕ) → Makes code old new (by_instr code (Some (Dereference t' at)) s.operands (here_of place s))
designated_makes code old new place t at x s o b read some found mode kept_is events picks t' =
    let n = access_on_top code old place t at s b in
    let same : n.value ≡ x = same_value n.value x (slice_get old.cells.items (first_window (reverse old.masters.items) + at)) n.read read in
    let h : Holds code (kept old) s.control (Scalar x ∷ n.rest) s.world = subst (λ (l : List Word). Holds code (kept old) s.control l s.world) (n.are ∙ ap (λ y. Scalar y ∷ n.rest) same) b.inside.holds in
    subst (λ (m : Move). Makes code old new m) (sym (designated_move code old place t at x s (Some o) b read some found t'))
    (goes_keeping code old new (with_part (whole_spot x) (kept old)) (place + 1) (Operand (Record t) ∷ b.fine.0) s.control (Located (whole_spot x) ∷ n.rest) s.world b.fine.2.1
    (designated_there code (kept old) t x b.fine.0 s.control n.rest s.world n.left h) mode kept_is events picks)
