-- Parts of objects that are adjusted: what stands there before.
use Rattle.std.specs.Prelude.{◌≡◌, ℕ, ◌≤◌, List, ◌∷◌, [], ◌++◌, reverse, slice_get, Option, Some, None, ◌<◌, vec_capacity, vec_len}
use Rattle.ctl_tree.specs.declared.event.Owner.{Owner}
use Rattle.ctl_meaning.specs.World.{Object}
use Rattle.ctl_code.specs.declared.code.Code.{Code}
use Rattle.ctl_code.specs.declared.code.Begun.{Begun}
use Rattle.ctl_code.specs.declared.code.Entry.{Entry}
use Rattle.ctl_code.specs.States as T
use Rattle.ctl_code.specs.Table.{controlled_of, operation_of}
use Rattle.ctl_code.specs.Fits.{Waits}
use Rattle.ctl_frames.specs.Filling.{AreLeft}
use Rattle.ctl_lifetimes.specs.declared.adjusting.Adjustment.{Adjustment}
use Rattle.ctl_engine.specs.declared.engine.Engine.{Engine}
use Rattle.ctl_frames.specs.declared.frame.Frame.{Frame}
use Rattle.ctl_frames.specs.declared.frame.Frame.TheVariants as FrameOf
use Rattle.ctl_frames.specs.declared.frame.Left.{Left}
use Rattle.ctl_engine.specs.Assigning.{Called}
use Rattle.ctl_engine.specs.Finishing.{Finished}
use Rattle.ctl_frames.specs.Masters.{heads_of}
use Rattle.ctl_frames.specs.Owned.{IsObject}
use Rattle.ctl_frames.specs.Noted.{IsNoting}
use Rattle.ctl_frames.specs.Spots.{spots_in}
use Rattle.ctl_engine.specs.Shows.{SizedBelow, Holds, kept}

-- what the Adjust of a part is called for, over its frame
abbrev pub adjust_call : Object → ℕ → Adjustment → Finished → Called
adjust_call o body x t = record { object = o; spot = t.spot; body = body; control = T.AdjustingOwn x.creation t.spot x.record_type x.failed ∷ t.control; world = t.world }

-- the user wrote this body as the Adjust of a record type, and it is called for an object of a master
pub record CallsAdjust (code : Code) (e : Engine) (entry : Entry) (y : Adjustment) (master : ℕ) (t : Finished) (x : Called) : Type 0 where
  pub is : x ≡ adjust_call x.object x.body y t
  pub object : IsObject e.owned.items e.stock.objects t.spot.object master x.object
  pub operation : operation_of (λ o. o.adjust) code y.record_type ≡ Some x.body
  pub body : slice_get code.entries.items x.body ≡ Some entry
  pub slots : 1 ≤ entry.slots

-- the frame of this part is the newest, and these of its components are left
pub record AdjustsParts (code : Code) (e : Engine) (creation : Option Owner) (type : ℕ) (those : Left) (t : Finished) (left : List Begun) : Type 0 where
  pub frames : List Frame
  pub top : reverse e.control.items ≡ FrameOf.Adjusting creation type those ∷ frames
  pub holds : Holds code (kept e) (T.Adjusting creation t.spot type left ∷ t.control) [] t.world
  pub spots : e.spots.items ≡ spots_in t.control ++ t.spot ∷ []
  pub sized : SizedBelow code t.control (heads_of t.world.activations)
  pub waits : Waits code t.control
  pub noting : IsNoting creation t.control
  pub are : AreLeft (controlled_of code type) those left

-- where an object is created by a copy, there is room to note a part that is adjusted
abbrev pub HasNoteRoom : Engine → Option Owner → Type 0
HasNoteRoom e None = Unit {0}
HasNoteRoom e (Some owner) = vec_len e.noted < vec_capacity e.noted
