use Rattle.std.specs.Prelude.{◌≡◌, ◌<◌, ◌≤◌, ◌-◌, ℕ, Some, length, slice_get}
use Rattle.ctl_frames.specs.declared.frame.Master.{Master}
use Rattle.ctl_engine.proofs.holders.master_at.Given as goal

-- those before have lower numbers, and those behind higher ones
abbrev pub invariant-loop-low : goal.invariant-loop-low
invariant-loop-low l = (l.high ≤ length l.masters) × ((m : Master) (at : ℕ) → slice_get l.masters at ≡ Some m → at < l.low → m.number < l.number) × ((m : Master) (at : ℕ) → slice_get l.masters at ≡ Some m → l.high ≤ at → l.number < m.number)

abbrev pub decreases-loop-low : goal.decreases-loop-low
decreases-loop-low l = l.high - l.low
