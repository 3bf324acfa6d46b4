use Rattle.std.specs.Prelude.{◌≡◌, ◌<◌, ◌≤◌, ◌-◌, ℕ, Some, length, slice_get}
use Rattle.ctl_frames.specs.declared.frame.Owned.{Owned}
use Rattle.ctl_frames.specs.Owned.{IsSet}
use Rattle.ctl_engine.proofs.holders.set_at.Given as goal

-- it is none of those before, and none of those behind
abbrev pub invariant-loop-low : goal.invariant-loop-low
invariant-loop-low l = (l.high ≤ length l.owned) × ((at : ℕ) (o : Owned) → slice_get l.owned at ≡ Some o → at < l.low → IsSet l.number o → ⊥) × ((at : ℕ) (o : Owned) → slice_get l.owned at ≡ Some o → l.high ≤ at → IsSet l.number o → ⊥)

abbrev pub decreases-loop-low : goal.decreases-loop-low
decreases-loop-low l = l.high - l.low
