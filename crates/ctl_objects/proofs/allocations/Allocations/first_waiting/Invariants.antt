use Rattle.std.specs.Prelude.{◌<◌, ◌-◌, ◌^◌}
use Rattle.ctl_objects.proofs.Waits.{NoneBefore}
use Rattle.ctl_objects.proofs.allocations.Allocations.first_waiting.Given as goal

-- none waits before the number that is looked at
abbrev pub invariant-loop-number : goal.invariant-loop-number
invariant-loop-number l = (l.start < 2 ^ 64) × NoneBefore l.self.needs l.group l.self.objects l.start

abbrev pub decreases-loop-number : goal.decreases-loop-number
decreases-loop-number l = 2 ^ 64 - l.start
