-- Parts of objects as operands: one is put, one of its components takes its place, or the value of one does.
use Rattle.std.proofs.Common.{◌≡◌, ℕ, ◌+◌, ◌<◌, List, [], ◌∷◌, ◌++◌, Option, Some, None, drop, length, refl, sym, ap, ◌∙◌, subst, arith, reverse}
use Rattle.std.specs.Prelude.{slice_set}
use Rattle.std.proofs.lemmas.List.{append-nil, append_assoc}
use Rattle.ctl_tree.specs.declared.ending.Stop.TheVariants.{UseAfterFree}
use Rattle.ctl_program.specs.declared.types.Ty.{Ty}
use Rattle.ctl_program.specs.declared.types.Var.{Var}
use Rattle.ctl_program.specs.declared.types.Ty.TheVariants.{Record}
use Rattle.ctl_meaning.specs.World.{World}
use Rattle.ctl_meaning.specs.Finalization.{Spot}
use Rattle.ctl_meaning.specs.Changes.{object_at}
use Rattle.ctl_code.specs.declared.kinds.Kind.{Kind}
use Rattle.ctl_code.specs.declared.kinds.Kind.TheVariants.{Operand}
use Rattle.ctl_code.specs.declared.code.Code.{Code}
use Rattle.ctl_code.specs.declared.code.Cell.{Cell}
use Rattle.ctl_code.specs.declared.code.Instr.TheVariants.{DropPart, Locate, Select, TakePart}
use Rattle.ctl_code.specs.States as T
use Rattle.ctl_code.specs.Fits.{IsOperandOf}
use Rattle.ctl_meaning.specs.Activations.{master_of}
use Rattle.ctl_meaning.specs.Changes.{slot_at}
use Rattle.ctl_meaning.specs.World as W
use Rattle.ctl_meaning.specs.World.{Content}
use Rattle.ctl_code.specs.States.{Word, Scalar, Located, Cells, Move, State}
use Rattle.ctl_engine.specs.RecordValues.{IsPart, IsValue}
use Rattle.ctl_code.specs.Table.{Here, by_instr, by_locate, component_in, component_of, fetch_from, gone, holder_at, locating, offset_of, on, on_record, on_top, quiet, word_of}
use Rattle.ctl_code.specs.Valid.{IsValid, Leads}
use Rattle.ctl_code.specs.Windows.{height}
use Rattle.ctl_engine.specs.declared.engine.Engine.{Engine}
use Rattle.ctl_frames.specs.declared.frame.Mode.{Mode}
use Rattle.ctl_frames.specs.declared.frame.Mode.TheVariants as ModeOf
use Rattle.ctl_frames.specs.Masters.{heads_of, first_display, first_window}
use Rattle.ctl_engine.specs.Moves.{Before, GoesOn, Inside, Makes, here_of}
use Rattle.ctl_places.specs.Parts.{part_in}
use Rattle.ctl_engine.specs.Shows.{ShowsMode, Kept, Holds, kept, with_cells, with_spots}
use Rattle.ctl_frames.specs.Spots.{KeepsSpots, first_spot, located, spots_in, standing, value_on_top, value_spot}
use Rattle.ctl_frames.specs.Under.{under}
use Rattle.ctl_engine.proofs.Following.{makes_later}
use Rattle.ctl_engine.proofs.Operands.{HasPart, has_part, other_spots}
use Rattle.ctl_engine.proofs.Places.{place_is}
use Rattle.ctl_engine.proofs.Plain.{put_makes, put_within}
use Rattle.ctl_places.proofs.Touched.{fetched_is, gone_makes, part_move}
use Rattle.ctl_engine.proofs.Values.{operand_put, room_for, window_in}
use Rattle.ctl_meaning.specs.Names.{scalar_of}

-- the machine goes on before an instruction, and keeps other parts
pub goes_keeping : (code : Code) (old new : Engine) (e : Kept) (place : ℕ) (stack : List Kind) (k : List T.Frame) (ops : List Word) (w : World) → Leads code place stack → Inside code e stack k ops w
    → new.mode ≡ ModeOf.At place → kept new ≡ e → new.events.items ≡ old.events.items → new.picks.items ≡ old.picks.items
    → Makes code old new (quiet (T.At (first_display (heads_of w.activations)) place) k ops w)
goes_keeping code old new e place stack k ops w leads i mode kept_is events picks = record {
  mode = subst (λ (m : Mode). ShowsMode code m (T.At (first_display (heads_of w.activations)) place) k (heads_of w.activations)) (sym mode) (refl, refl, stack, leads, i.sized);
  holds = subst (λ (x : Kept). Holds code x k ops w) (sym kept_is) i.holds;
  spots = subst (λ (m : Mode). KeepsSpots m new.spots.items k ops) (sym mode) (ap (λ (x : Kept). x.spots) kept_is ∙ i.spots);
  shows = events ∙ sym (append-nil old.events.items);
  picks = picks;
}

-- A part is put (4.1) ----------------------------------------------------------------------------------

-- with one operand more, a part or the value of a record, which has its cell
abbrev pub with_word_at : ℕ → Word → Kept → Kept
with_word_at at x e = with_spots (with_cells e (slice_set e.cells at (T.worth x))) (e.spots ++ located (x ∷ []))

-- it stands behind the others
pub standing_more : (k : List T.Frame) (ops : List Word) (x : Word) → standing k ops ++ located (x ∷ []) ≡ standing k (x ∷ ops)
standing_more k ops (Scalar n) = append-nil (standing k ops)
standing_more k ops (Located s) = append_assoc (spots_in k) (located ops) (s ∷ [])
standing_more k ops (Cells v) = append_assoc (spots_in k) (located ops) (value_spot v ∷ [])

pub located_put : (code : Code) (e : Kept) (place t at : ℕ) (stack : List Kind) (k : List T.Frame) (ops : List Word) (w : World) (x : Word) → IsValid code → Inside code e stack k ops w → at ≡ height stack → Leads code place (Operand (Record t) ∷ stack) → IsOperandOf (Record t) x
    → (first_window e.masters + at < length e.cells) × Inside code (with_word_at (first_window e.masters + at) x e) (Operand (Record t) ∷ stack) k (x ∷ ops) w
located_put code e place t at stack k ops w x valid i is leads o =
    let here = place_is (window_in i) in
    let room = room_for code.room e.masters (length e.cells) i.holds.room in
    let fits = valid.room place (Operand (Record t) ∷ stack) leads in
    let cell = first_window e.masters + at in
    let within : cell < length e.cells = omega (arith, room, fits, is) in (
      within,
      record {
        stands = (o, i.stands);
        sized = i.sized;
        holds = other_spots code (with_cells e (slice_set e.cells cell (T.worth x))) (e.spots ++ located (x ∷ [])) k (x ∷ ops) w (operand_put code e k ops w x cell i.holds (omega (arith, here, is)) within);
        spots = ap (λ (l : List Spot). l ++ located (x ∷ [])) i.spots ∙ standing_more k ops x;
      },
    )

pub some_is : (x y : Word) → Some x ≡ Some y → x ≡ y
some_is x y e = ap (λ (o : Option Word). word_or x o) e
  where
    word_or : Word → Option Word → Word
    word_or d None = d
    word_or d (Some z) = z

-- what a slot holds is the one or the other
held_operand : (t : ℕ) (c : Content) (x : Word) → Some x ≡ word_of c → IsOperandOf (Record t) x
held_operand t (W.Holds n) x is = subst (λ (y : Word). IsOperandOf (Record t) y) (sym (some_is x _ is)) tt
held_operand t (W.Binds n offset path) x is = subst (λ (y : Word). IsOperandOf (Record t) y) (sym (some_is x _ is)) tt
held_operand t (W.Copies v) x is = subst (λ (y : Word). IsOperandOf (Record t) y) (sym (some_is x _ is)) tt
held_operand t W.Nothing x is = absurd (let f : Some x ≡ None = is in cc)
held_operand t (W.Gathers n) x is = absurd (let f : Some x ≡ None = is in cc)

locate_move : (code : Code) (place : ℕ) (s : State) (v : Var) (t at : ℕ) (x : Option Word) → x ≡ holder_at (first_display (heads_of s.world.activations)) v s.world
    → by_instr code (Some (Locate v t at)) s.operands (here_of place s) ≡ by_locate x s.operands (here_of place s)
locate_move code place s v t at x is = ap (λ y. by_locate y s.operands (here_of place s)) (sym is)

pub locate_within : (code : Code) (e : Engine) (place : ℕ) (s : State) (v : Var) (t at : ℕ) → IsValid code → Before code e place (Locate v t at) s → first_window (reverse e.masters.items) + at < length e.cells.items
locate_within code e place s v t at valid b = (located_put code (kept e) (place + 1) t at b.stack s.control s.operands s.world (Located (record { object = 0; offset = 0; path = [] })) valid b.inside b.fine.0 b.fine.1 tt).0

pub locate_makes : (code : Code) (old new : Engine) (place : ℕ) (s : State) (v : Var) (t at : ℕ) (x : Word) → IsValid code → Before code old place (Locate v t at) s → Some x ≡ holder_at (first_display (heads_of s.world.activations)) v s.world
    → new.mode ≡ ModeOf.At (place + 1) → kept new ≡ with_word_at (first_window (reverse old.masters.items) + at) x (kept old) → new.events.items ≡ old.events.items → new.picks.items ≡ old.picks.items
    → Makes code old new (by_instr code (Some (Locate v t at)) s.operands (here_of place s))
locate_makes code old new place s v t at x valid b is mode kept_is events picks =
    subst (λ (m : Move). Makes code old new m) (sym (locate_move code place s v t at (Some x) is))
    (goes_keeping code old new (with_word_at (first_window (reverse old.masters.items) + at) x (kept old)) (place + 1) (Operand (Record t) ∷ b.stack) s.control (x ∷ s.operands) s.world b.fine.1
    (located_put code (kept old) (place + 1) t at b.stack s.control s.operands s.world x valid b.inside b.fine.0 b.fine.1 (held_operand t (slot_at (master_of (first_display (heads_of s.world.activations)) v) v.slot s.world).content x is)).1 mode kept_is events picks)

pub locate_gone : (code : Code) (old new : Engine) (place : ℕ) (s : State) (v : Var) (t at : ℕ) → Before code old place (Locate v t at) s → None ≡ holder_at (first_display (heads_of s.world.activations)) v s.world
    → GoesOn old new (ModeOf.Stopped UseAfterFree) old.cells.items → Makes code old new (by_instr code (Some (Locate v t at)) s.operands (here_of place s))
locate_gone code old new place s v t at b is g =
    subst (λ (m : Move). Makes code old new m) (sym (locate_move code place s v t at None is))
    (gone_makes code old new s.control s.operands s.world b.inside.holds g)

-- A component takes the place of a part (4.1.3) --------------------------------------------------------

-- the part on top, and what is below it, before an instruction that finds it there
pub part_on_top : (code : Code) (e : Engine) (t : ℕ) (stack below : List Kind) (s : State) → Inside code (kept e) stack s.control s.operands s.world → stack ≡ Operand (Record t) ∷ below → HasPart code (kept e) below s.control s.operands s.world
part_on_top code e t stack below s i is = has_part code (kept e) t below s.control s.operands s.world (subst (λ (l : List Kind). Inside code (kept e) l s.control s.operands s.world) is i)

-- what the table makes of it
pub locating_is : (f : Spot → List Word → Move) (ops : List Word) (h : Here) → IsPart ops → locating f ops h ≡ f (first_spot ops) (drop 1 ops)
locating_is f (Located s ∷ ops) h is = refl
locating_is f (Cells v ∷ ops) h is = absurd is
locating_is f (Scalar n ∷ ops) h is = absurd is
locating_is f [] h is = absurd is

-- a value takes none
pub taking_none : (f : Spot → List Word → Move) (ops : List Word) (h : Here) → IsValue ops → locating f ops h ≡ gone h.control h.world
taking_none f (Cells v ∷ ops) h is = refl
taking_none f (Located s ∷ ops) h is = absurd is
taking_none f (Scalar n ∷ ops) h is = absurd is
taking_none f [] h is = absurd is

-- a part, or the value of a record
pub on_part : (f : Spot → List Word → Move) (g : List ℕ → List Word → Move) (ops : List Word) (h : Here) → IsPart ops → on_record f g ops h ≡ f (first_spot ops) (drop 1 ops)
on_part f g (Located s ∷ ops) h is = refl
on_part f g (Cells v ∷ ops) h is = absurd is
on_part f g (Scalar n ∷ ops) h is = absurd is
on_part f g [] h is = absurd is

pub on_value : (f : Spot → List Word → Move) (g : List ℕ → List Word → Move) (ops : List Word) (h : Here) → IsValue ops → on_record f g ops h ≡ g (value_on_top ops) (drop 1 ops)
on_value f g (Cells v ∷ ops) h is = refl
on_value f g (Located s ∷ ops) h is = absurd is
on_value f g (Scalar n ∷ ops) h is = absurd is
on_value f g [] h is = absurd is

-- what is on top, whatever it is
pub top_value : (f : Word → List Word → Move) (ops : List Word) (h : Here) → IsValue ops → on_top f ops h ≡ f (Cells (value_on_top ops)) (drop 1 ops)
top_value f (Cells v ∷ ops) h is = refl
top_value f (Located s ∷ ops) h is = absurd is
top_value f (Scalar n ∷ ops) h is = absurd is
top_value f [] h is = absurd is

pub top_is : (f : Word → List Word → Move) (ops : List Word) (h : Here) → IsPart ops → on_top f ops h ≡ f (Located (first_spot ops)) (drop 1 ops)
top_is f (Located s ∷ ops) h is = refl
top_is f (Cells v ∷ ops) h is = absurd is
top_is f (Scalar n ∷ ops) h is = absurd is
top_is f [] h is = absurd is

-- the cells of the value stand among the parts
pub value_cells : (ops : List Word) → IsValue ops → (first_spot ops).path ≡ value_on_top ops
value_cells (Cells v ∷ ops) is = refl
value_cells (Located s ∷ ops) is = absurd is
value_cells (Scalar n ∷ ops) is = absurd is
value_cells [] is = absurd is

-- a part of the same object in its place
changed_part : (code : Code) (e : Kept) (spots : List Spot) (t part : ℕ) (below : List Kind) (k : List T.Frame) (ops : List Word) (w : World) (x : Spot) → IsPart ops → Inside code e (Operand (Record t) ∷ below) k ops w → x.object ≡ (first_spot ops).object → spots ≡ standing k (drop 1 ops) ++ x ∷ []
    → Inside code (with_spots e spots) (Operand (Record part) ∷ below) k (Located x ∷ drop 1 ops) w
changed_part code e spots t part below k [] w x top i same is = absurd i.stands
changed_part code e spots t part below k (Scalar n ∷ ops) w x top i same is = absurd top
changed_part code e spots t part below k (Cells v ∷ ops) w x top i same is = absurd top
changed_part code e spots t part below k (Located y ∷ ops) w x top i same is =
    let cell : y.object ≡ x.object = sym same in
    let h = i.holds in
    record {
      stands = (tt, i.stands.1);
      sized = i.sized;
      holds = record {
        cells = (h.cells.0, h.cells.1 ∙ ap (λ n. (under k w.activations ++ reverse (n ∷ T.cells_of ops)) ++ h.cells.0) cell);
        room = h.room;
        masters = h.masters;
        below = h.below;
        waits = h.waits;
        objects = h.objects;
        needs = h.needs;
        pools = h.pools;
        owns = h.owns;
        held = h.held;
        rise = h.rise;
        next_master = h.next_master;
        next_object = h.next_object;
        next_collection = h.next_collection;
        collections = h.collections;
        left = h.left;
        saved = h.saved;
        noted = h.noted;
      };
      spots = is ∙ append_assoc (spots_in k) (located ops) (x ∷ []);
    }

pub select_makes : (code : Code) (old new : Engine) (place : ℕ) (s : State) (t position part offset : ℕ) → (b : Before code old place (Select t position part) s) → IsPart s.operands
    → new.mode ≡ ModeOf.At (place + 1) → kept new ≡ with_spots (kept old) (standing s.control (drop 1 s.operands) ++ component_of (first_spot s.operands) offset position ∷ []) → new.events.items ≡ old.events.items → new.picks.items ≡ old.picks.items
    → (t' part' : ℕ) → offset ≡ offset_of code t' position → Makes code old new (by_instr code (Some (Select t' position part')) s.operands (here_of place s))
select_makes code old new place s t position part offset b top mode kept_is events picks t' part' same =
    let below = b.fine.0 in
    let x = component_of (first_spot s.operands) offset position in
    let spots = standing s.control (drop 1 s.operands) ++ x ∷ [] in
    let i = changed_part code (kept old) spots t part below s.control s.operands s.world x top (subst (λ (l : List Kind). Inside code (kept old) l s.control s.operands s.world) b.fine.1 b.inside) refl refl in
    let h = here_of place s in
    subst (λ (m : Move). Makes code old new m) (sym (top_is (λ y rest. on (component_in y (offset_of code t' position) position ∷ rest) s.world h) s.operands h top
    ∙ ap (λ n. on (Located (component_of (first_spot s.operands) n position) ∷ drop 1 s.operands) s.world h) (sym same)))
    (goes_keeping code old new (with_spots (kept old) spots) (place + 1) (Operand (Record part) ∷ below) s.control (Located x ∷ drop 1 s.operands) s.world b.fine.2 i mode kept_is events picks)

-- and that of the value of a record
changed_value : (code : Code) (e : Kept) (spots : List Spot) (t part : ℕ) (below : List Kind) (k : List T.Frame) (ops : List Word) (w : World) (v : List ℕ) → IsValue ops → Inside code e (Operand (Record t) ∷ below) k ops w → spots ≡ standing k (drop 1 ops) ++ value_spot v ∷ []
    → Inside code (with_spots e spots) (Operand (Record part) ∷ below) k (Cells v ∷ drop 1 ops) w
changed_value code e spots t part below k [] w v top i is = absurd i.stands
changed_value code e spots t part below k (Scalar n ∷ ops) w v top i is = absurd top
changed_value code e spots t part below k (Located y ∷ ops) w v top i is = absurd top
changed_value code e spots t part below k (Cells x ∷ ops) w v top i is =
    let h = i.holds in
    record {
      stands = (tt, i.stands.1);
      sized = i.sized;
      holds = record {
        cells = h.cells;
        room = h.room;
        masters = h.masters;
        below = h.below;
        waits = h.waits;
        objects = h.objects;
        needs = h.needs;
        pools = h.pools;
        owns = h.owns;
        held = h.held;
        rise = h.rise;
        next_master = h.next_master;
        next_object = h.next_object;
        next_collection = h.next_collection;
        collections = h.collections;
        left = h.left;
        saved = h.saved;
        noted = h.noted;
      };
      spots = is ∙ append_assoc (spots_in k) (located ops) (value_spot v ∷ []);
    }

pub select_value_makes : (code : Code) (old new : Engine) (place : ℕ) (s : State) (t position part offset : ℕ) → (b : Before code old place (Select t position part) s) → IsValue s.operands
    → new.mode ≡ ModeOf.At (place + 1) → kept new ≡ with_spots (kept old) (standing s.control (drop 1 s.operands) ++ value_spot (drop offset (value_on_top s.operands)) ∷ []) → new.events.items ≡ old.events.items → new.picks.items ≡ old.picks.items
    → (t' part' : ℕ) → offset ≡ offset_of code t' position → Makes code old new (by_instr code (Some (Select t' position part')) s.operands (here_of place s))
select_value_makes code old new place s t position part offset b top mode kept_is events picks t' part' same =
    let below = b.fine.0 in
    let v = value_on_top s.operands in
    let spots = standing s.control (drop 1 s.operands) ++ value_spot (drop offset v) ∷ [] in
    let i = changed_value code (kept old) spots t part below s.control s.operands s.world (drop offset v) top (subst (λ (l : List Kind). Inside code (kept old) l s.control s.operands s.world) b.fine.1 b.inside) refl in
    let h = here_of place s in
    subst (λ (m : Move). Makes code old new m) (sym (top_value (λ y rest. on (component_in y (offset_of code t' position) position ∷ rest) s.world h) s.operands h top
    ∙ ap (λ n. on (Cells (drop n v) ∷ drop 1 s.operands) s.world h) (sym same)))
    (goes_keeping code old new (with_spots (kept old) spots) (place + 1) (Operand (Record part) ∷ below) s.control (Cells (drop offset v) ∷ drop 1 s.operands) s.world b.fine.2 i mode kept_is events picks)

-- It is dropped (7.6) ----------------------------------------------------------------------------------

pub drop_makes : (code : Code) (old new : Engine) (place : ℕ) (s : State) (t : ℕ) → Before code old place (DropPart t) s
    → new.mode ≡ ModeOf.At (place + 1) → kept new ≡ with_spots (kept old) (standing s.control (drop 1 s.operands)) → new.events.items ≡ old.events.items → new.picks.items ≡ old.picks.items
    → (t' : ℕ) → Makes code old new (by_instr code (Some (DropPart t')) s.operands (here_of place s))
drop_makes code old new place s t b mode kept_is events picks t' =
    let below = b.fine.0 in
    let p = part_on_top code old t b.stack below s b.inside b.fine.1 in
    subst (λ (m : Move). Makes code old new m) (sym (ap (λ (l : List Word). on_top (λ x rest. on rest s.world (here_of place s)) l (here_of place s)) p.are))
    (goes_keeping code old new (with_spots (kept old) (standing s.control (drop 1 s.operands))) (place + 1) below s.control (drop 1 s.operands) s.world b.fine.2 p.left mode kept_is events picks)

-- Its value does (4.1.3) -------------------------------------------------------------------------------

take_move : (code : Code) (e : Engine) (place : ℕ) (s : State) (below : List Kind) (t position offset : ℕ) (ty : Ty) (to : Cell) (x : Option ℕ) → IsPart s.operands → offset ≡ offset_of code t position
    → x ≡ part_in ((first_spot s.operands).offset + offset) (object_at (first_spot s.operands).object s.world)
    → by_instr code (Some (TakePart t position ty to)) s.operands (here_of place s) ≡ part_move x to.named (drop 1 s.operands) (here_of place s)
take_move code e place s below t position offset ty to x top same is =
    let h = here_of place s in
    let y = first_spot s.operands in
    let rest = drop 1 s.operands in
    top_is (λ z below. fetch_from (offset_of code t position) z to.named below h) s.operands h top
    ∙ (ap (λ n. fetch_from n (Located y) to.named rest h) (sym same)
    ∙ (fetched_is (y.offset + offset) (object_at y.object s.world) to.named rest h
    ∙ ap (λ z. part_move z to.named rest h) (sym is)))

pub take_makes : (code : Code) (old mid new : Engine) (place : ℕ) (s : State) (t position offset : ℕ) (ty : Ty) (to : Cell) (x : ℕ) → IsValid code → Before code old place (TakePart t position ty to) s → IsPart s.operands
    → Some x ≡ part_in ((first_spot s.operands).offset + offset) (object_at (first_spot s.operands).object s.world) → kept mid ≡ with_spots (kept old) (standing s.control (drop 1 s.operands)) → mid.events.items ≡ old.events.items → mid.picks.items ≡ old.picks.items
    → GoesOn mid new (ModeOf.At (place + 1)) (slice_set mid.cells.items (first_window (reverse mid.masters.items) + to.at) x)
    → (t' position' : ℕ) (ty' : Ty) → offset ≡ offset_of code t' position' → Makes code old new (by_instr code (Some (TakePart t' position' ty' to)) s.operands (here_of place s))
take_makes code old mid new place s t position offset ty to x valid b top is mid_is events picks g t' position' ty' same =
    let below = b.fine.1.0 in
    let p = part_on_top code old t b.stack below s b.inside b.fine.1.1 in
    let made = put_makes code mid new place to ty below s.control (drop 1 s.operands) s.world x b.fine.0 valid (subst (λ (e : Kept). Inside code e below s.control (drop 1 s.operands) s.world) (sym mid_is) p.left) b.fine.1.2 g in
    subst (λ (m : Move). Makes code old new m) (sym (take_move code old place s below t' position' offset ty' to (Some x) top same is))
    (makes_later code old mid new _ events picks made)

-- of the value of a record it is one of its cells
pub take_value_makes : (code : Code) (old mid new : Engine) (place : ℕ) (s : State) (t position offset : ℕ) (ty : Ty) (to : Cell) (x : ℕ) → IsValid code → Before code old place (TakePart t position ty to) s → IsValue s.operands
    → x ≡ scalar_of (drop offset (value_on_top s.operands)) → kept mid ≡ with_spots (kept old) (standing s.control (drop 1 s.operands)) → mid.events.items ≡ old.events.items → mid.picks.items ≡ old.picks.items
    → GoesOn mid new (ModeOf.At (place + 1)) (slice_set mid.cells.items (first_window (reverse mid.masters.items) + to.at) x)
    → (t' position' : ℕ) (ty' : Ty) → offset ≡ offset_of code t' position' → Makes code old new (by_instr code (Some (TakePart t' position' ty' to)) s.operands (here_of place s))
take_value_makes code old mid new place s t position offset ty to x valid b top is mid_is events picks g t' position' ty' same =
    let below = b.fine.1.0 in
    let h = here_of place s in
    let rest = drop 1 s.operands in
    let v = value_on_top s.operands in
    let p = part_on_top code old t b.stack below s b.inside b.fine.1.1 in
    let made = put_makes code mid new place to ty below s.control rest s.world x b.fine.0 valid (subst (λ (e : Kept). Inside code e below s.control rest s.world) (sym mid_is) p.left) b.fine.1.2 g in
    let move : by_instr code (Some (TakePart t' position' ty' to)) s.operands h ≡ part_move (Some x) to.named rest h =
    top_value (λ z below. fetch_from (offset_of code t' position') z to.named below h) s.operands h top
    ∙ (ap (λ n. part_move (Some (scalar_of (drop n v))) to.named rest h) (sym same)
    ∙ ap (λ n. part_move (Some n) to.named rest h) (sym is)) in
    subst (λ (m : Move). Makes code old new m) (sym move) (makes_later code old mid new _ events picks made)

-- what was read of the part
pub read_is : (r : Option ℕ) (start number offset : ℕ) (x y : Spot) (w : World) → r ≡ part_in (start + offset) (object_at number w) → start ≡ x.offset → number ≡ x.object → x ≡ y → r ≡ part_in (y.offset + offset) (object_at y.object w)
read_is r start number offset x y w read first object same =
    read
    ∙ (ap (λ n. part_in (n + offset) (object_at number w)) (first ∙ ap (λ (z : Spot). z.offset) same)
    ∙ ap (λ n. part_in (y.offset + offset) (object_at n w)) (object ∙ ap (λ (z : Spot). z.object) same))

pub take_within : (code : Code) (old mid : Engine) (place : ℕ) (s : State) (t position : ℕ) (ty : Ty) (to : Cell) → IsValid code → Before code old place (TakePart t position ty to) s → kept mid ≡ with_spots (kept old) (standing s.control (drop 1 s.operands))
    → first_window (reverse mid.masters.items) + to.at < length mid.cells.items
take_within code old mid place s t position ty to valid b mid_is =
    let below = b.fine.1.0 in
    let p = part_on_top code old t b.stack below s b.inside b.fine.1.1 in
    put_within code mid place to ty below s.control (drop 1 s.operands) s.world b.fine.0 valid (subst (λ (e : Kept). Inside code e below s.control (drop 1 s.operands) s.world) (sym mid_is) p.left) b.fine.1.2

pub take_gone : (code : Code) (old new : Engine) (place : ℕ) (s : State) (t position offset : ℕ) (ty : Ty) (to : Cell) → Before code old place (TakePart t position ty to) s → IsPart s.operands
    → None ≡ part_in ((first_spot s.operands).offset + offset) (object_at (first_spot s.operands).object s.world) → GoesOn old new (ModeOf.Stopped UseAfterFree) old.cells.items
    → (t' position' : ℕ) (ty' : Ty) → offset ≡ offset_of code t' position' → Makes code old new (by_instr code (Some (TakePart t' position' ty' to)) s.operands (here_of place s))
take_gone code old new place s t position offset ty to b top is g t' position' ty' same =
    let below = b.fine.1.0 in
    subst (λ (m : Move). Makes code old new m) (sym (take_move code old place s below t' position' offset ty' to None top same is))
    (gone_makes code old new s.control s.operands s.world b.inside.holds g)
