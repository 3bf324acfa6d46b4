use Rattle.std.specs.Prelude.{◌≡◌, ◌≤◌, drop, length, take}
use Rattle.ctl_frames.specs.Holders.{formal_in}
use Rattle.ctl_engine.proofs.holders.formal.Given as goal

-- no formal from here up to the end has the slot
abbrev pub invariant-loop-at : goal.invariant-loop-at
invariant-loop-at l = (l.at ≤ length l.formals) × (formal_in (drop l.start (take l.at l.formals)) l.slot ≡ formal_in (drop l.start (take l.end l.formals)) l.slot)

abbrev pub decreases-loop-at : goal.decreases-loop-at
decreases-loop-at l = l.at
