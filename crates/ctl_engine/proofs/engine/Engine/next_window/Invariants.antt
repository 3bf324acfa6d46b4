use Rattle.std.specs.Prelude.{◌≡◌, ◌≤◌, length, reverse, take}
use Rattle.ctl_frames.specs.Links.{end_behind}
use Rattle.ctl_engine.proofs.engine.Engine.next_window.Given as goal

abbrev pub invariant-loop-count : goal.invariant-loop-count
invariant-loop-count l = (l.count ≤ length l.self.control.items) × (end_behind l.code (reverse l.self.masters.items) (reverse (take l.count l.self.control.items)) ≡ end_behind l.code (reverse l.self.masters.items) (reverse l.self.control.items))

abbrev pub decreases-loop-count : goal.decreases-loop-count
decreases-loop-count l = l.count
