use Rattle.std.specs.Prelude.{◌≤◌, drop, length}
use Rattle.ctl_objects.specs.Declarations.{AreOf}
use Rattle.ctl_objects.proofs.declarations.count_before.Given as goal

abbrev pub invariant-loop-count : goal.invariant-loop-count
invariant-loop-count l = (l.count ≤ length l.objects) × AreOf l.master (drop l.count l.objects)

abbrev pub decreases-loop-count : goal.decreases-loop-count
decreases-loop-count l = l.count
