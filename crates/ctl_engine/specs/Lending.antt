-- While a default is evaluated, the newest master's record says where its window begins, and how many parts stand below; the frame keeps what it
-- said before.
use Rattle.std.specs.Prelude.{◌≡◌, ℕ, List, ◌∷◌, Option, Some, None, drop, length, reverse}
use Rattle.ctl_meaning.specs.Finalization.{Spot}
use Rattle.ctl_meaning.specs.Names.{scalar_of}
use Rattle.ctl_code.specs.declared.code.Way.{Way}
use Rattle.ctl_code.specs.declared.code.Way.TheVariants as WayOf
use Rattle.ctl_engine.specs.declared.engine.Engine.{Engine}
use Rattle.ctl_frames.specs.declared.frame.Ended.{Ended}
use Rattle.ctl_frames.specs.declared.frame.Ended.TheVariants as EndedOf
use Rattle.ctl_frames.specs.declared.frame.Frame.TheVariants as FrameOf
use Rattle.ctl_frames.specs.declared.frame.Master.{Master}
use Rattle.ctl_frames.specs.declared.frame.Mode.TheVariants as ModeOf
use Rattle.ctl_engine.specs.Shows.{Kept, kept, lent}
use Rattle.ctl_frames.specs.Spots.{last_value}

-- the newest master lends its record, for the default of this component of an object
abbrev pub lending : ℕ → ℕ → ℕ → ℕ → Master → List Master → Kept → Kept
lending object start offset window m ms e = record e { control = FrameOf.Evaluating object start offset m.window m.spots ∷ e.control; masters = lent m window (length e.spots) ∷ ms }

-- then the evaluation begins at a place; nothing else has changed
pub record Lends (old new : Engine) (object start offset window place : ℕ) : Type 0 where
  pub master : Master
  pub masters : List Master
  pub newest : reverse old.masters.items ≡ master ∷ masters
  pub mode : new.mode ≡ ModeOf.At place
  pub kept : kept new ≡ lending object start offset window master masters (kept old)
  pub events : new.events.items ≡ old.events.items
  pub picks : new.picks ≡ old.picks

-- it has its record back, and the frame comes off; nothing else has changed
pub record GivesBack (old new : Engine) (window spots : ℕ) : Type 0 where
  pub master : Master
  pub masters : List Master
  pub newest : reverse old.masters.items ≡ master ∷ masters
  pub mode : new.mode ≡ old.mode
  pub kept : kept new ≡ record (kept old) { control = drop 1 (reverse old.control.items); masters = lent master window spots ∷ masters }
  pub events : new.events.items ≡ old.events.items
  pub picks : new.picks.items ≡ old.picks.items

-- a default has one cell: where the value of a record waits among these parts, its first cell is what control leaves the default with
abbrev pub settled : List Spot → Way → Way
settled spots WayOf.ReturnRecord = WayOf.ReturnValue (scalar_of (last_value spots))
settled spots way = way

-- the value that a default has which control leaves so; none where no value is returned
abbrev pub returned_by : Way → Option ℕ
returned_by WayOf.Return = Some 0
returned_by (WayOf.ReturnValue v) = Some v
returned_by _ = None

-- how its evaluation has ended then
abbrev pub ended_by : Way → Ended
ended_by (WayOf.Raise e) = EndedOf.Raised e
ended_by _ = EndedOf.Complete
