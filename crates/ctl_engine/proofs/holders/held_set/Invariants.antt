use Rattle.std.specs.Prelude.{◌≡◌, ◌≤◌, drop, length, take}
use Rattle.ctl_meaning.specs.World.{Nothing}
use Rattle.ctl_frames.specs.Holders.{holder_in}
use Rattle.ctl_engine.proofs.holders.held_set.Given as goal

-- nothing from here up to the end came in the slot
abbrev pub invariant-loop-at : goal.invariant-loop-at
invariant-loop-at l = (l.at ≤ length l.owned) × (holder_in (drop l.start (take l.at l.owned)) l.slot Nothing ≡ holder_in (drop l.start (take l.end l.owned)) l.slot Nothing)

abbrev pub decreases-loop-at : goal.decreases-loop-at
decreases-loop-at l = l.at
