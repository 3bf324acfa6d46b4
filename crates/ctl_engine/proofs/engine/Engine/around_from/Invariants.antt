use Rattle.std.specs.Prelude.{◌≡◌, ◌≤◌, take, length}
use Rattle.ctl_frames.specs.Masters.{display_from}
use Rattle.ctl_engine.proofs.engine.Engine.around_from.Given as goal

abbrev pub invariant-loop-count : goal.invariant-loop-count
invariant-loop-count g l = (l.count ≤ length l.self.masters.items) × (take l.fn.level (display_from l.count g.hs) ≡ take l.fn.level (display_from l.fn.newest g.hs))

abbrev pub decreases-loop-count : goal.decreases-loop-count
decreases-loop-count g l = l.count
