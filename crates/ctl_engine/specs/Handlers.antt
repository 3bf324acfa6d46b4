-- What becomes of the exceptions of the newest master (11.2 to 11.4).
use Rattle.std.specs.Prelude.{◌≡◌, ℕ, List, ◌∷◌, Option, None}
use Rattle.ctl_engine.specs.declared.engine.Engine.{Engine}
use Rattle.ctl_frames.specs.declared.frame.Frame.{Frame}
use Rattle.ctl_frames.specs.declared.frame.Frame.TheVariants as FrameOf
use Rattle.ctl_frames.specs.declared.frame.Handling.{Handling}
use Rattle.ctl_frames.specs.declared.frame.Mode.{Mode}
use Rattle.ctl_engine.specs.Shows.{kept}

-- the exception that the innermost handler around handles, as the newest frame has it
abbrev pub first_caught : List Frame → ℕ
first_caught (FrameOf.InMaster handling after ∷ fs) = handling.caught
first_caught _ = 0

-- the place of the handlers of the newest master, if its frame is the newest and it has some that have not begun
abbrev pub first_handlers : List Frame → Option ℕ
first_handlers (FrameOf.InMaster handling after ∷ fs) = handling.handlers
first_handlers _ = None

-- with this in the newest frame, if that is a master's
abbrev pub with_handling : Handling → List Frame → List Frame
with_handling handling (FrameOf.InMaster before after ∷ fs) = FrameOf.InMaster handling after ∷ fs
with_handling handling fs = fs

-- the exceptions of the newest master, if its frame is the newest, are handled so from here on, and then comes this mode; nothing else has
-- changed
pub record ChangesHandling (old new : Engine) (handling : Handling) (next : Mode) : Type 0 where
  pub mode : new.mode ≡ next
  pub kept : kept new ≡ record (kept old) { control = with_handling handling (kept old).control }
  pub events : new.events.items ≡ old.events.items
  pub picks : new.picks.items ≡ old.picks.items
