use Rattle.std.specs.Prelude.{◌≡◌, ◌≤◌, ◌-◌, [], drop, length}
use Rattle.ctl_frames.specs.Masters.{rising_layers}
use Rattle.ctl_engine.proofs.engine.Engine.newest_layer.Given as goal

abbrev pub invariant-loop-end : goal.invariant-loop-end
invariant-loop-end l = (l.end ≤ length l.self.owned.items) × (rising_layers (drop l.end l.self.owned.items) ≡ [])

abbrev pub decreases-loop-end : goal.decreases-loop-end
decreases-loop-end l = l.end - l.master.owned
