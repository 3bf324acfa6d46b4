-- Parts of copies that failed: which of them are adjusted, and what stands there before they are finalized.
use Rattle.std.specs.Prelude.{◌≡◌, ℕ, ◌-◌, ◌≤◌, Bool, List, ◌∷◌, [], ◌++◌, Some, drop, length, reverse, slice_get, take}
use Rattle.ctl_meaning.specs.World.{Object}
use Rattle.ctl_meaning.specs.Finalization.{Spot}
use Rattle.ctl_meaning.specs.Lists.{any_of, begins, keep, pull_item, pull_rest}
use Rattle.ctl_code.specs.declared.code.Begun.{Begun}
use Rattle.ctl_code.specs.declared.code.Code.{Code}
use Rattle.ctl_code.specs.declared.code.Entry.{Entry}
use Rattle.ctl_code.specs.States as T
use Rattle.ctl_code.specs.Table.{controlled_of, operation_of}
use Rattle.ctl_code.specs.Fits.{Waits}
use Rattle.ctl_engine.specs.Assigning.{Called}
use Rattle.ctl_frames.specs.Filling.{AreAmong, is_undone}
use Rattle.ctl_engine.specs.Finishing.{Finished}
use Rattle.ctl_frames.specs.Masters.{heads_of}
use Rattle.ctl_frames.specs.Owned.{IsObject}
use Rattle.ctl_frames.specs.Noted.{IsUndone, paths_of}
use Rattle.ctl_engine.specs.Shows.{SizedBelow, Holds, kept}
use Rattle.ctl_frames.specs.Spots.{spots_in}
use Rattle.ctl_engine.specs.declared.engine.Engine.{Engine}
use Rattle.ctl_frames.specs.declared.frame.Frame.{Frame}
use Rattle.ctl_frames.specs.declared.frame.Frame.TheVariants as FrameOf
use Rattle.ctl_frames.specs.declared.frame.Left.{Left}

-- Components that are adjusted --------------------------------------------------------------------

-- the paths of the parts that are noted from one on
abbrev pub noted_from : ℕ → List Spot → List (List ℕ)
noted_from first noted = drop first (paths_of noted)

-- whether a component of a part has one of these paths, or has a part that does
abbrev pub has_any_of : List (List ℕ) → Spot → Begun → Bool
has_any_of paths s x = any_of (begins (s.path ++ x.position ∷ [])) paths

-- those of some components that pass a test, from one place on and before another
abbrev pub among : List Begun → ℕ → ℕ → (Begun → Bool) → List Begun
among all first last passes = keep passes (take (last - first) (drop first all))

-- the places from one on and before another
abbrev pub between : ℕ → ℕ → Left
between first last = record { first = first; last = last }

-- the component at a place is the one that a pick takes of those that pass a test, and those are left then
pub record IsChosenAmong (all : List Begun) (passes : Begun → Bool) (left : List Begun) (pick at : ℕ) (those : Left) : Type 0 where
  pub chosen : (d : Begun) → slice_get all at ≡ Some (pull_item d pick left)
  pub rest : AreAmong all those passes (pull_rest pick left)

-- Finalizations -----------------------------------------------------------------------------------

-- what the Finalize of a part is called for, over its frame
abbrev pub undo_call : Object → ℕ → ℕ → Finished → Called
undo_call o body type t = record { object = o; spot = t.spot; body = body; control = T.UndoingOwn t.spot type ∷ t.control; world = t.world }

-- the user wrote this body as the Finalize of a record type, and it is called for an object of a master
pub record CallsUndone (code : Code) (e : Engine) (entry : Entry) (type master : ℕ) (t : Finished) (x : Called) : Type 0 where
  pub is : x ≡ undo_call x.object x.body type t
  pub object : IsObject e.owned.items e.stock.objects t.spot.object master x.object
  pub operation : operation_of (λ o. o.finalize) code type ≡ Some x.body
  pub body : slice_get code.entries.items x.body ≡ Some entry
  pub slots : 1 ≤ entry.slots

-- the frame of this part is the newest, and these of its components are left, so many, of those that are noted from one on
pub record UndoesParts (code : Code) (e : Engine) (type : ℕ) (those : Left) (count first : ℕ) (t : Finished) (left : List Begun) : Type 0 where
  pub frames : List Frame
  pub top : reverse e.control.items ≡ FrameOf.UndoingParts type those count first ∷ frames
  pub holds : Holds code (kept e) (T.UndoingParts t.spot left ∷ t.control) [] t.world
  pub spots : e.spots.items ≡ spots_in t.control ++ t.spot ∷ []
  pub sized : SizedBelow code t.control (heads_of t.world.activations)
  pub waits : Waits code t.control
  pub undone : IsUndone first t.control
  pub are : AreAmong (controlled_of code type) those (is_undone t.spot t.control) left
  pub many : count ≡ length left
