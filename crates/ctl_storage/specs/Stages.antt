-- How far an object has come, and the steps that it takes.
use Rattle.std.specs.Prelude.{true, false}
use Rattle.ctl_meaning.specs.World as W
use Rattle.ctl_meaning.specs.World.{Object}
use Rattle.ctl_meaning.specs.Objects.{with_begun, with_finalized, with_joined}
use Rattle.ctl_storage.specs.declared.existing.Life.{Life}
use Rattle.ctl_storage.specs.declared.existing.Life.TheVariants.{Untouched, Finalizing, Finalized}
use Rattle.ctl_storage.specs.declared.existing.Stage.{Stage}
use Rattle.ctl_storage.specs.declared.existing.Step.{Step}
use Rattle.ctl_storage.specs.declared.existing.Step.TheVariants.{Begin, End, Join}

abbrev pub state_of : Life → W.State
state_of Untouched = W.Untouched
state_of Finalizing = W.Finalizing
state_of Finalized = W.Finalized

-- the life after the end of a finalization, where one has begun
abbrev pub ended : Life → Life
ended Untouched = Untouched
ended Finalizing = Finalized
ended Finalized = Finalized

abbrev pub start : Stage
start = record { life = Untouched; has_joined = false }

abbrev pub after : Step → Stage → Stage
after Begin s = record s { life = Finalizing }
after End s = record s { life = ended s.life }
after Join s = record s { has_joined = true }

-- what the step is in the meaning
abbrev pub with_step : Step → Object → Object
with_step Begin o = with_begun o
with_step End o = with_finalized o
with_step Join o = with_joined o
