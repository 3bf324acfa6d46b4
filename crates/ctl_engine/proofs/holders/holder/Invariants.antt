use Rattle.std.specs.Prelude.{◌≡◌, ◌≤◌, drop, length, take}
use Rattle.ctl_frames.specs.Holders.{holder_in, formal_in, own_formals}
use Rattle.ctl_engine.proofs.holders.holder.Given as goal

-- no object from here up to the end was declared in the slot
abbrev pub invariant-loop-at : goal.invariant-loop-at
invariant-loop-at l = (l.at ≤ length l.owned) × (holder_in (drop l.start (take l.at l.owned)) l.slot (formal_in (own_formals l.master l.formals) l.slot) ≡ holder_in (drop l.start (take l.end l.owned)) l.slot (formal_in (own_formals l.master l.formals) l.slot))

abbrev pub decreases-loop-at : goal.decreases-loop-at
decreases-loop-at l = l.at
