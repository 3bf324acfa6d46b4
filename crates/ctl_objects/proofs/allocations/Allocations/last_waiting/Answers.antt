use Rattle.ctl_objects.proofs.Waits.{none_under}
use Rattle.ctl_objects.proofs.allocations.Allocations.last_waiting.Goals as goal

pub loop-number-init : goal.loop-number-init
loop-number-init c = none_under c.args.self.now.needs c.args.group c.args.self.now.objects c.are_numbered.ensures
