-- Components of what slots hold are read.
use Rattle.std.proofs.Common.{◌≡◌, ℕ, ◌+◌, List, [], Option, Some, None, refl, sym, ap, ◌∙◌, subst, reverse}
use Rattle.std.specs.Prelude.{slice_set}
use Rattle.std.specs.Option.{option_map}
use Rattle.std.proofs.lemmas.List.{append-nil}
use Rattle.ctl_tree.specs.declared.ending.Stop.TheVariants.{UseAfterFree}
use Rattle.ctl_program.specs.declared.types.Ty.{Ty}
use Rattle.ctl_program.specs.declared.types.Var.{Var}
use Rattle.ctl_meaning.specs.World as W
use Rattle.ctl_meaning.specs.World.{Content, World}
use Rattle.ctl_meaning.specs.Names.{scalar_of}
use Rattle.ctl_meaning.specs.Objects.{cells_at, object_in}
use Rattle.ctl_meaning.specs.Activations.{master_of}
use Rattle.ctl_meaning.specs.Changes.{object_at, slot_at}
use Rattle.ctl_code.specs.declared.code.Code.{Code}
use Rattle.ctl_code.specs.declared.code.Cell.{Cell}
use Rattle.ctl_code.specs.declared.code.Named.{Named}
use Rattle.ctl_code.specs.declared.code.Instr.TheVariants.{Designate, FetchPart}
use Rattle.ctl_code.specs.States as T
use Rattle.ctl_code.specs.States.{Word, State, Move, object_of}
use Rattle.ctl_code.specs.Table.{Here, by_designate, by_instr, by_fetch_part, fetched, gone, holder_at, offset_of, put, word_of}
use Rattle.ctl_code.specs.Valid.{IsValid}
use Rattle.ctl_engine.specs.declared.engine.Engine.{Engine}
use Rattle.ctl_frames.specs.declared.frame.Mode.{Mode}
use Rattle.ctl_frames.specs.declared.frame.Mode.TheVariants as ModeOf
use Rattle.ctl_frames.specs.Masters.{heads_of, first_display, first_window}
use Rattle.ctl_places.specs.Parts.{part_in, part_at}
use Rattle.ctl_engine.specs.Shows.{ShowsMode, Kept, Holds, kept}
use Rattle.ctl_engine.specs.Moves.{Before, Makes, GoesOn, here_of}
use Rattle.ctl_engine.proofs.Owned.{object_shown}
use Rattle.ctl_engine.proofs.Plain.{no_operands, put_makes}
use Rattle.ctl_frames.specs.Spots.{KeepsSpots}

-- what the machine uses has ceased to exist
pub gone_makes : (code : Code) (old new : Engine) (k : List T.Frame) (ops : List Word) (w : World) → Holds code (kept old) k ops w → GoesOn old new (ModeOf.Stopped UseAfterFree) old.cells.items → Makes code old new (gone k w)
gone_makes code old new k ops w h g = record {
  mode = subst (λ (m : Mode). ShowsMode code m (T.Stopped UseAfterFree) k (heads_of w.activations)) (sym g.mode) refl;
  holds = subst (λ (e : Kept). Holds code e k [] w) (sym g.kept) (no_operands code (kept old) k ops w h);
  spots = subst (λ (m : Mode). KeepsSpots m new.spots.items k []) (sym g.mode) tt;
  shows = g.events ∙ sym (append-nil old.events.items);
  picks = g.picks;
}

-- A component --------------------------------------------------------------------------------------------

-- the table's move, once the component is read
abbrev pub part_move : Option ℕ → Named → List Word → Here → Move
part_move None to ops h = gone h.control h.world
part_move (Some x) to ops h = put to x ops h

pub fetched_is : (offset : ℕ) (o : Option W.Object) (to : Named) (ops : List Word) (h : Here) → fetched offset o to ops h ≡ part_move (part_in offset o) to ops h
fetched_is offset None to ops h = refl
fetched_is offset (Some o) to ops h = refl

fetch_is : (offset : ℕ) (c : Content) (to : Named) (ops : List Word) (h : Here) → by_fetch_part offset (word_of c) to ops h ≡ part_move (part_at offset (word_of c) h.world) to ops h
fetch_is offset W.Nothing to ops h = refl
fetch_is offset (W.Holds n) to ops h = fetched_is (0 + offset) (object_at n h.world) to ops h
fetch_is offset (W.Binds n start path) to ops h = fetched_is (start + offset) (object_at n h.world) to ops h
fetch_is offset (W.Copies v) to ops h = refl
fetch_is offset (W.Gathers n) to ops h = refl

fetch_move : (code : Code) (place : ℕ) (s : State) (v : Var) (t position offset : ℕ) (ty : Ty) (to : Cell) (x : Option ℕ) → offset ≡ offset_of code t position → x ≡ part_at offset (holder_at (first_display (heads_of s.world.activations)) v s.world) s.world
    → by_instr code (Some (FetchPart v t position ty to)) s.operands (here_of place s) ≡ part_move x to.named s.operands (here_of place s)
fetch_move code place s v t position offset ty to x same is =
    let holder = holder_at (first_display (heads_of s.world.activations)) v s.world in
    ap (λ n. by_fetch_part n holder to.named s.operands (here_of place s)) (sym same)
    ∙ (fetch_is offset (slot_at (master_of (first_display (heads_of s.world.activations)) v) v.slot s.world).content to.named s.operands (here_of place s) ∙ ap (λ y. part_move y to.named s.operands (here_of place s)) (sym is))

pub fetch_makes : (code : Code) (old new : Engine) (place : ℕ) (s : State) (v : Var) (t position offset : ℕ) (ty : Ty) (to : Cell) (x : ℕ) → IsValid code → Before code old place (FetchPart v t position ty to) s
    → Some x ≡ part_at offset (holder_at (first_display (heads_of s.world.activations)) v s.world) s.world
    → GoesOn old new (ModeOf.At (place + 1)) (slice_set old.cells.items (first_window (reverse old.masters.items) + to.at) x)
    → (t' position' : ℕ) (ty' : Ty) → offset ≡ offset_of code t' position' → Makes code old new (by_instr code (Some (FetchPart v t' position' ty' to)) s.operands (here_of place s))
fetch_makes code old new place s v t position offset ty to x valid b is g t' position' ty' same =
    subst (λ (m : Move). Makes code old new m) (sym (fetch_move code place s v t' position' offset ty' to (Some x) same is))
    (put_makes code old new place to ty b.stack s.control s.operands s.world x b.fine.0 valid b.inside b.fine.1 g)

pub fetch_gone : (code : Code) (old new : Engine) (place : ℕ) (s : State) (v : Var) (t position offset : ℕ) (ty : Ty) (to : Cell) → Before code old place (FetchPart v t position ty to) s
    → None ≡ part_at offset (holder_at (first_display (heads_of s.world.activations)) v s.world) s.world → GoesOn old new (ModeOf.Stopped UseAfterFree) old.cells.items
    → (t' position' : ℕ) (ty' : Ty) → offset ≡ offset_of code t' position' → Makes code old new (by_instr code (Some (FetchPart v t' position' ty' to)) s.operands (here_of place s))
fetch_gone code old new place s v t position offset ty to b is g t' position' ty' same =
    subst (λ (m : Move). Makes code old new m) (sym (fetch_move code place s v t' position' offset ty' to None same is))
    (gone_makes code old new s.control s.operands s.world b.inside.holds g)

-- what is read of the object of a number
pub part_read : (code : Code) (e : Kept) (k : List T.Frame) (ops : List Word) (w : World) (n offset : ℕ) (r : Option ℕ) → Holds code e k ops w → r ≡ option_map (λ o. scalar_of (cells_at offset 1 o)) (object_in n e.objects) → r ≡ part_in offset (object_at n w)
part_read code e k ops w n offset r h read = read ∙ (by (object_in n e.objects) ∙ ap (λ (o : Option W.Object). part_in offset o) (sym (object_shown code e k ops w n h)))
  where
    by : (o : Option W.Object) → option_map (λ o. scalar_of (cells_at offset 1 o)) o ≡ part_in offset o
    by None = refl
    by (Some o) = refl

-- An object (3.10.2) -------------------------------------------------------------------------------------

pub designate_makes : (code : Code) (old new : Engine) (place : ℕ) (s : State) (v : Var) (ty : Ty) (to : Cell) (x : Word) → IsValid code → Before code old place (Designate v ty to) s → Some x ≡ holder_at (first_display (heads_of s.world.activations)) v s.world
    → GoesOn old new (ModeOf.At (place + 1)) (slice_set old.cells.items (first_window (reverse old.masters.items) + to.at) (object_of x)) → (ty' : Ty) → Makes code old new (by_instr code (Some (Designate v ty' to)) s.operands (here_of place s))
designate_makes code old new place s v ty to x valid b is g ty' =
    subst (λ (o : Option Word). Makes code old new (by_designate o to.named s.operands (here_of place s))) is
    (put_makes code old new place to ty b.stack s.control s.operands s.world (object_of x) b.fine.0 valid b.inside b.fine.1 g)

pub designate_gone : (code : Code) (old new : Engine) (place : ℕ) (s : State) (v : Var) (ty : Ty) (to : Cell) → Before code old place (Designate v ty to) s → None ≡ holder_at (first_display (heads_of s.world.activations)) v s.world
    → GoesOn old new (ModeOf.Stopped UseAfterFree) old.cells.items → (ty' : Ty) → Makes code old new (by_instr code (Some (Designate v ty' to)) s.operands (here_of place s))
designate_gone code old new place s v ty to b is g ty' =
    subst (λ (o : Option Word). Makes code old new (by_designate o to.named s.operands (here_of place s))) is (gone_makes code old new s.control s.operands s.world b.inside.holds g)
