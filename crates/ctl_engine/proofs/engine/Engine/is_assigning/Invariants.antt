use Rattle.std.specs.Prelude.{◌≡◌, ◌≤◌, length, reverse, take}
use Rattle.ctl_engine.specs.Assigning.{is_assigning}
use Rattle.ctl_engine.proofs.engine.Engine.is_assigning.Given as goal

abbrev pub invariant-loop-count : goal.invariant-loop-count
invariant-loop-count l = (l.count ≤ length l.self.control.items) × (is_assigning (reverse (take l.count l.self.control.items)) ≡ is_assigning (reverse l.self.control.items))

abbrev pub decreases-loop-count : goal.decreases-loop-count
decreases-loop-count l = l.count
