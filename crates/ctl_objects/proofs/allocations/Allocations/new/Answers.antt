use Rattle.ctl_objects.proofs.Filed.{filed_none}
use Rattle.ctl_objects.proofs.allocations.Allocations.new.Goals as goal

pub invariant_of-result : goal.invariant_of-result
invariant_of-result c = filed_none c.args.needs.items c.new.result.objects c.new-2.result c.new-3.result c.new.ensures.objects c.new-2.ensures.none c.new-2.ensures.size (c.new-3.ensures c.args.needs.items)
