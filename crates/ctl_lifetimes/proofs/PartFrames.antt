-- Frames that wait for the newest part: one comes over a state without operands, and goes.
use Rattle.std.proofs.Common.{◌≡◌, ℕ, List, [], ◌∷◌, ◌++◌, Option, Bool, length, refl, sym, ap, ◌∙◌, subst, reverse}
use Rattle.std.proofs.lemmas.List.{append-nil, append_assoc}
use Rattle.ctl_tree.specs.declared.event.Owner.{Owner}
use Rattle.ctl_tree.specs.declared.event.Cause.{Cause}
use Rattle.ctl_meaning.specs.Finalization.{Spot}
use Rattle.ctl_meaning.specs.World.{Activation, World}
use Rattle.ctl_code.specs.declared.code.Begun.{Begun}
use Rattle.ctl_code.specs.declared.code.Code.{Code}
use Rattle.ctl_code.specs.States as T
use Rattle.ctl_code.specs.States.{cells_of, Word}
use Rattle.ctl_code.specs.Table.{begun_of, controlled_of}
use Rattle.ctl_code.specs.Fits.{SpeakOfKnown, Waits}
use Rattle.ctl_frames.specs.declared.frame.Apart.{Apart}
use Rattle.ctl_frames.specs.declared.frame.Frame.{Frame}
use Rattle.ctl_frames.specs.declared.frame.Frame.TheVariants as FrameOf
use Rattle.ctl_frames.specs.declared.frame.Left.{Left}
use Rattle.ctl_frames.specs.declared.frame.Master.{Master}
use Rattle.ctl_frames.specs.declared.frame.Owned.{Owned}
use Rattle.ctl_frames.specs.Masters.{Head, heads_of}
use Rattle.ctl_frames.specs.Filling.{AreAmong, AreApart, AreLeft, LeavesSame, AllLeaveSame, is_undone, IsCreation}
use Rattle.ctl_frames.specs.Noted.{IsNoting, IsUndone, noted_in}
use Rattle.ctl_engine.specs.Saved.{AreSaved}
use Rattle.ctl_frames.specs.Spots.{spots_in}
use Rattle.ctl_frames.specs.Under.{tall, under}
use Rattle.ctl_engine.specs.Shows.{Wait, master_waits, leaving_waits, creating_waits, allocating_waits, allocating_copy_waits, copying_waits, assigning_waits, emptying_waits, freeing_waits, finalizing_waits, filling_waits, evaluating_waits, initializing_waits, failing_waits, adjusting_waits, adjusting_own_waits, undoing_waits, undoing_own_waits, undoing_parts_waits, finalizing_own_waits, finalizing_parts_waits, SizedBelow, Kept, Holds}
use Rattle.ctl_frames.proofs.StillLeft.{left_below}

-- over the same frames, a frame of the machine, one of the table, and the part that both wait for
pub data IsPartFrame (code : Code) (k : List T.Frame) : Frame → T.Frame → Spot → Type 0 where
  fills : {t : ℕ} {owner : Owner} {those unfinished : Left} {x : T.Newborn} {left incomplete : List Begun} {s : Spot}
      → x.spot ≡ s → x.type ≡ t → x.owner ≡ owner → AreLeft (begun_of code t) those left → AreLeft (begun_of code t) unfinished incomplete → IsCreation k → IsPartFrame code k (FrameOf.Filling t owner those unfinished) (T.Filling x left incomplete) s
  initializes : {t : ℕ} {owner : Owner} {x : T.Newborn} {s : Spot} → x.spot ≡ s → x.type ≡ t → x.owner ≡ owner → IsPartFrame code k (FrameOf.Initializing t owner) (T.Initializing x) s
  fails : {e : ℕ} {s : Spot} → IsPartFrame code k (FrameOf.Failing e) (T.Failing s e) s
  adjusts : {creation : Option Owner} {t : ℕ} {those : Left} {left : List Begun} {s : Spot}
      → IsNoting creation k → AreLeft (controlled_of code t) those left → IsPartFrame code k (FrameOf.Adjusting creation t those) (T.Adjusting creation s t left) s
  adjusts_own : {creation : Option Owner} {t : ℕ} {failed : Bool} {s : Spot} → IsNoting creation k → IsPartFrame code k (FrameOf.AdjustingOwn creation t failed) (T.AdjustingOwn creation s t failed) s
  undoes_own : {t first : ℕ} {s : Spot} → IsUndone first k → IsPartFrame code k (FrameOf.UndoingOwn t first) (T.UndoingOwn s t) s
  undoes_parts : {t count first : ℕ} {those : Left} {left : List Begun} {s : Spot}
      → IsUndone first k → AreAmong (controlled_of code t) those (is_undone s k) left → count ≡ length left → IsPartFrame code k (FrameOf.UndoingParts t those count first) (T.UndoingParts s left) s
  finalizes_own : {cause : Cause} {t : ℕ} {s : Spot} → IsPartFrame code k (FrameOf.FinalizingOwn cause t) (T.FinalizingOwn cause s t) s
  finalizes_parts : {cause : Cause} {t : ℕ} {those : Apart} {failed : Bool} {left : List Begun} {s : Spot}
      → AreApart (controlled_of code t) those left → IsPartFrame code k (FrameOf.FinalizingParts cause t those failed) (T.FinalizingParts cause s left failed) s

-- What such a frame adds ------------------------------------------------------------------------------

pub spots_with : (code : Code) {f : Frame} {g : T.Frame} {s : Spot} {k : List T.Frame} → IsPartFrame code k f g s → spots_in (g ∷ k) ≡ spots_in k ++ s ∷ []
spots_with code {k = k} (fills is ty m those unfinished new) = ap (λ (x : Spot). spots_in k ++ x ∷ []) is
spots_with code {k = k} (initializes is ty m) = ap (λ (x : Spot). spots_in k ++ x ∷ []) is
spots_with code fails = refl
spots_with code (adjusts noting left) = refl
spots_with code (adjusts_own noting) = refl
spots_with code (undoes_own undone) = refl
spots_with code (undoes_parts undone left many) = refl
spots_with code finalizes_own = refl
spots_with code (finalizes_parts left) = refl

-- no cell
cells_with : (code : Code) {f : Frame} {g : T.Frame} {s : Spot} {k : List T.Frame} → IsPartFrame code k f g s → (acts : List Activation) → under (g ∷ k) acts ≡ under k acts
cells_with code (fills is ty m those unfinished new) acts = refl
cells_with code (initializes is ty m) acts = refl
cells_with code fails acts = refl
cells_with code (adjusts noting left) acts = refl
cells_with code (adjusts_own noting) acts = refl
cells_with code (undoes_own undone) acts = refl
cells_with code (undoes_parts undone left many) acts = refl
cells_with code finalizes_own acts = refl
cells_with code (finalizes_parts left) acts = refl

pub tall_with : (code : Code) {f : Frame} {g : T.Frame} {s : Spot} {k : List T.Frame} → IsPartFrame code k f g s → (hs : List Head) → tall (g ∷ k) hs ≡ tall k hs
tall_with code (fills is ty m those unfinished new) hs = refl
tall_with code (initializes is ty m) hs = refl
tall_with code fails hs = refl
tall_with code (adjusts noting left) hs = refl
tall_with code (adjusts_own noting) hs = refl
tall_with code (undoes_own undone) hs = refl
tall_with code (undoes_parts undone left many) hs = refl
tall_with code finalizes_own hs = refl
tall_with code (finalizes_parts left) hs = refl

saved_with : (code : Code) {f : Frame} {g : T.Frame} {s : Spot} {k : List T.Frame} → IsPartFrame code k f g s → (saved : List ℕ) → AreSaved code saved (g ∷ k) ≡ AreSaved code saved k
saved_with code (fills is ty m those unfinished new) saved = refl
saved_with code (initializes is ty m) saved = refl
saved_with code fails saved = refl
saved_with code (adjusts noting left) saved = refl
saved_with code (adjusts_own noting) saved = refl
saved_with code (undoes_own undone) saved = refl
saved_with code (undoes_parts undone left many) saved = refl
saved_with code finalizes_own saved = refl
saved_with code (finalizes_parts left) saved = refl

pub sized_with : (code : Code) {f : Frame} {g : T.Frame} {s : Spot} {k : List T.Frame} → IsPartFrame code k f g s → (hs : List Head) → SizedBelow code (g ∷ k) hs ≡ SizedBelow code k hs
sized_with code (fills is ty m those unfinished new) hs = refl
sized_with code (initializes is ty m) hs = refl
sized_with code fails hs = refl
sized_with code (adjusts noting left) hs = refl
sized_with code (adjusts_own noting) hs = refl
sized_with code (undoes_own undone) hs = refl
sized_with code (undoes_parts undone left many) hs = refl
sized_with code finalizes_own hs = refl
sized_with code (finalizes_parts left) hs = refl

pub waits_with : (code : Code) {f : Frame} {g : T.Frame} {s : Spot} {k : List T.Frame} → IsPartFrame code k f g s → Waits code (g ∷ k) ≡ Waits code k
waits_with code (fills is ty m those unfinished new) = refl
waits_with code (initializes is ty m) = refl
waits_with code fails = refl
waits_with code (adjusts noting left) = refl
waits_with code (adjusts_own noting) = refl
waits_with code (undoes_own undone) = refl
waits_with code (undoes_parts undone left many) = refl
waits_with code finalizes_own = refl
waits_with code (finalizes_parts left) = refl

pub known_with : (code : Code) {f : Frame} {g : T.Frame} {s : Spot} {k : List T.Frame} → IsPartFrame code k f g s → SpeakOfKnown code (g ∷ k) → SpeakOfKnown code k
known_with code (fills is ty m those unfinished new) = λ h. h.1
known_with code (initializes is ty m) = λ h. h
known_with code fails = λ h. h
known_with code (adjusts noting left) = λ h. h
known_with code (adjusts_own noting) = λ h. h
known_with code (undoes_own undone) = λ h. h
known_with code (undoes_parts undone left many) = λ h. h
known_with code finalizes_own = λ h. h
known_with code (finalizes_parts left) = λ h. h

-- nothing is noted by it
noted_with : (code : Code) {f : Frame} {g : T.Frame} {s : Spot} {k : List T.Frame} → IsPartFrame code k f g s → noted_in (g ∷ k) ≡ noted_in k
noted_with code (fills is ty m those unfinished new) = refl
noted_with code (initializes is ty m) = refl
noted_with code fails = refl
noted_with code (adjusts noting left) = refl
noted_with code (adjusts_own noting) = refl
noted_with code (undoes_own undone) = refl
noted_with code (undoes_parts undone left many) = refl
noted_with code finalizes_own = refl
noted_with code (finalizes_parts left) = refl

leaves_with : (code : Code) {f : Frame} {g : T.Frame} {s : Spot} {k : List T.Frame} → IsPartFrame code k f g s → LeavesSame code f g k
leaves_with code (fills is ty m those unfinished new) = (those, unfinished, new)
leaves_with code (initializes is ty m) = tt
leaves_with code fails = tt
leaves_with code (adjusts noting left) = (noting, left)
leaves_with code (adjusts_own noting) = noting
leaves_with code (undoes_own undone) = undone
leaves_with code (undoes_parts undone left many) = (undone, left, many)
leaves_with code finalizes_own = tt
leaves_with code (finalizes_parts left) = left

on_top : (code : Code) {f : Frame} {g : T.Frame} {s : Spot} {fs : List Frame} {ms : List Master} {hs : List Head} {owned : List Owned} {k : List T.Frame} → IsPartFrame code k f g s → Wait fs ms hs owned k → Wait (f ∷ fs) ms hs owned (g ∷ k)
on_top code (fills is ty m those unfinished new) w = filling_waits ty m w
on_top code (initializes is ty m) w = initializing_waits ty m w
on_top code fails w = failing_waits w
on_top code (adjusts noting left) w = adjusting_waits w
on_top code (adjusts_own noting) w = adjusting_own_waits w
on_top code (undoes_own undone) w = undoing_own_waits w
on_top code (undoes_parts undone left many) w = undoing_parts_waits w
on_top code finalizes_own w = finalizing_own_waits w
on_top code (finalizes_parts left) w = finalizing_parts_waits w

-- a frame of the machine that is no master's
abbrev IsNoMaster : Frame → Type 0
IsNoMaster (FrameOf.InMaster g after) = ⊥
IsNoMaster (FrameOf.Leaving failed pending after next) = ⊥
IsNoMaster (FrameOf.Evaluating object start offset window spots) = ⊥
IsNoMaster f = Unit {0}

no_master : (code : Code) {f : Frame} {g : T.Frame} {s : Spot} {k : List T.Frame} → IsPartFrame code k f g s → IsNoMaster f
no_master code (fills is ty m those unfinished new) = tt
no_master code (initializes is ty m) = tt
no_master code fails = tt
no_master code (adjusts noting left) = tt
no_master code (adjusts_own noting) = tt
no_master code (undoes_own undone) = tt
no_master code (undoes_parts undone left many) = tt
no_master code finalizes_own = tt
no_master code (finalizes_parts left) = tt

below_top : {f : Frame} {g : T.Frame} {fs : List Frame} {ms : List Master} {hs : List Head} {owned : List Owned} {k : List T.Frame} → Wait (f ∷ fs) ms hs owned (g ∷ k) → IsNoMaster f → Wait fs ms hs owned k
below_top (master_waits s i w) master = absurd master
below_top (leaving_waits i l w) master = absurd master
below_top (creating_waits i p d w) master = w
below_top (allocating_waits i p d w) master = w
below_top (copying_waits i p d w) master = w
below_top (allocating_copy_waits i p d w) master = w
below_top (filling_waits i j w) master = w
below_top (evaluating_waits i w) master = absurd master
below_top (initializing_waits i j w) master = w
below_top (failing_waits w) master = w
below_top (assigning_waits v p d w) master = w
below_top (emptying_waits i w) master = w
below_top (freeing_waits h i j p d w) master = w
below_top (finalizing_waits i w) master = w
below_top (adjusting_waits w) master = w
below_top (adjusting_own_waits w) master = w
below_top (undoing_waits i w) master = w
below_top (undoing_own_waits w) master = w
below_top (undoing_parts_waits w) master = w
below_top (finalizing_own_waits w) master = w
below_top (finalizing_parts_waits w) master = w

-- The frame comes -------------------------------------------------------------------------------------

pub part_comes : (code : Code) (e : Kept) (f : Frame) (g : T.Frame) (s : Spot) (k : List T.Frame) (w : World) → IsPartFrame code k f g s → Holds code e k [] w → Holds code (record e { control = f ∷ e.control }) (g ∷ k) [] w
part_comes code e f g s k w is h = record {
  cells = (h.cells.0, h.cells.1 ∙ ap (λ (l : List ℕ). (l ++ []) ++ h.cells.0) (sym (cells_with code is w.activations)));
  room = h.room;
  masters = h.masters;
  below = h.below;
  waits = on_top code is h.waits;
  objects = h.objects;
  needs = h.needs;
  pools = h.pools;
  owns = h.owns;
  held = h.held;
  rise = h.rise;
  next_master = h.next_master;
  next_object = h.next_object;
  next_collection = h.next_collection;
  collections = h.collections;
  left = (leaves_with code is, h.left);
  saved = subst (λ (x : Type 0). x) (sym (saved_with code is e.saved)) h.saved;
  noted = h.noted ∙ sym (noted_with code is);
}

-- The frame goes --------------------------------------------------------------------------------------

pub part_goes : (code : Code) (e : Kept) (f : Frame) (fs : List Frame) (g : T.Frame) (s : Spot) (k : List T.Frame) (ops : List Word) (w : World) → IsPartFrame code k f g s → e.control ≡ f ∷ fs → Holds code e (g ∷ k) ops w → Holds code (record e { control = fs }) k [] w
part_goes code e f fs g s k ops w is top h =
    let hs = heads_of w.activations in
    let all : e.cells ≡ (under k w.activations ++ reverse (cells_of ops)) ++ h.cells.0 = h.cells.1 ∙ ap (λ (l : List ℕ). (l ++ reverse (cells_of ops)) ++ h.cells.0) (cells_with code is w.activations) in
    record {
      cells = (reverse (cells_of ops) ++ h.cells.0, all ∙ (append_assoc (under k w.activations) (reverse (cells_of ops)) h.cells.0 ∙ ap (λ (l : List ℕ). l ++ (reverse (cells_of ops) ++ h.cells.0)) (sym (append-nil (under k w.activations)))));
      room = h.room;
      masters = h.masters;
      below = h.below;
      waits = below_top (subst (λ (l : List Frame). Wait l e.masters hs e.owned (g ∷ k)) top h.waits) (no_master code is);
      objects = h.objects;
      needs = h.needs;
      pools = h.pools;
      owns = h.owns;
      held = h.held;
      rise = h.rise;
      next_master = h.next_master;
      next_object = h.next_object;
      next_collection = h.next_collection;
      collections = h.collections;
      left = left_below code f fs e.control g k h.left top;
      saved = subst (λ (x : Type 0). x) (saved_with code is e.saved) h.saved;
      noted = h.noted ∙ noted_with code is;
    }

-- Which frame it is ------------------------------------------------------------------------------------

-- the newest frame of the table, where that of the machine waits for a part
pub record IsOver (code : Code) (f : Frame) (fs : List Frame) (ms : List Master) (hs : List Head) (owned : List Owned) (k : List T.Frame) : Type 0 where
  pub frame : T.Frame
  pub waiting : List T.Frame
  pub spot : Spot
  pub is : k ≡ frame ∷ waiting
  pub part : IsPartFrame code waiting f frame spot

pub over_filling : (code : Code) {t : ℕ} {owner : Owner} {those unfinished : Left} {fs : List Frame} {ms : List Master} {hs : List Head} {owned : List Owned} {k : List T.Frame} → Wait (FrameOf.Filling t owner those unfinished ∷ fs) ms hs owned k → AllLeaveSame code (FrameOf.Filling t owner those unfinished ∷ fs) k → IsOver code (FrameOf.Filling t owner those unfinished) fs ms hs owned k
over_filling code (filling_waits {x = x} {left = left} {incomplete = incomplete} {k = k} i j w) h = record { frame = T.Filling x left incomplete; waiting = k; spot = x.spot; is = refl; part = fills refl i j h.0.0 h.0.1 h.0.2 }

pub over_initializing : (code : Code) {t : ℕ} {owner : Owner} {fs : List Frame} {ms : List Master} {hs : List Head} {owned : List Owned} {k : List T.Frame} → Wait (FrameOf.Initializing t owner ∷ fs) ms hs owned k → IsOver code (FrameOf.Initializing t owner) fs ms hs owned k
over_initializing code (initializing_waits {x = x} {k = k} i j w) = record { frame = T.Initializing x; waiting = k; spot = x.spot; is = refl; part = initializes refl i j }

pub over_failing : (code : Code) {e : ℕ} {fs : List Frame} {ms : List Master} {hs : List Head} {owned : List Owned} {k : List T.Frame} → Wait (FrameOf.Failing e ∷ fs) ms hs owned k → IsOver code (FrameOf.Failing e) fs ms hs owned k
over_failing code (failing_waits {s = s} {k = k} w) = record { frame = T.Failing s _; waiting = k; spot = s; is = refl; part = fails }

pub over_own : (code : Code) {cause : Cause} {t : ℕ} {fs : List Frame} {ms : List Master} {hs : List Head} {owned : List Owned} {k : List T.Frame} → Wait (FrameOf.FinalizingOwn cause t ∷ fs) ms hs owned k → IsOver code (FrameOf.FinalizingOwn cause t) fs ms hs owned k
over_own code (finalizing_own_waits {s = s} {k = k} w) = record { frame = T.FinalizingOwn _ s _; waiting = k; spot = s; is = refl; part = finalizes_own }

pub over_parts : (code : Code) {cause : Cause} {t : ℕ} {those : Apart} {failed : Bool} {fs : List Frame} {ms : List Master} {hs : List Head} {owned : List Owned} {k : List T.Frame} → Wait (FrameOf.FinalizingParts cause t those failed ∷ fs) ms hs owned k → AllLeaveSame code (FrameOf.FinalizingParts cause t those failed ∷ fs) k → IsOver code (FrameOf.FinalizingParts cause t those failed) fs ms hs owned k
over_parts code (finalizing_parts_waits {s = s} {left = left} {k = k} w) h = record { frame = T.FinalizingParts _ s left _; waiting = k; spot = s; is = refl; part = finalizes_parts h.0 }
