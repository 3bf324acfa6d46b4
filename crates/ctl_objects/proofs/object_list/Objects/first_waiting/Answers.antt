use Rattle.std.proofs.Common.{subst}
use Rattle.ctl_groups.specs.Members.{IsLeast}
use Rattle.ctl_objects.specs.Stock.{Stock}
use Rattle.ctl_objects.proofs.Waits.{DoesWait, least_both}
use Rattle.ctl_objects.proofs.object_list.Objects.first_waiting.Goals as goal

pub returns : goal.returns
returns c =
    let s = c.self.inside in
    subst (λ (v : Stock). IsLeast (DoesWait v.needs c.args.group v.objects) c.first_waiting.result) c.self.view_is
    (least_both s.allocated.needs s.allocated.objects s.declared c.args.group c.first_waiting.result c.self.invariant c.are_declared.ensures c.first_waiting.ensures)
