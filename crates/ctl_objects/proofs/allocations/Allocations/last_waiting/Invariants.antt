use Rattle.ctl_objects.proofs.Waits.{NoneBehind}
use Rattle.ctl_objects.proofs.allocations.Allocations.last_waiting.Given as goal

-- none waits behind the number that is looked at
abbrev pub invariant-loop-number : goal.invariant-loop-number
invariant-loop-number l = NoneBehind l.self.needs l.group l.self.objects l.end

abbrev pub decreases-loop-number : goal.decreases-loop-number
decreases-loop-number l = l.end
