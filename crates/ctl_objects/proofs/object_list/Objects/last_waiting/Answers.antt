use Rattle.std.proofs.Common.{subst}
use Rattle.ctl_groups.specs.Members.{IsGreatest}
use Rattle.ctl_objects.specs.Stock.{Stock}
use Rattle.ctl_objects.proofs.Waits.{DoesWait, greatest_both}
use Rattle.ctl_objects.proofs.object_list.Objects.last_waiting.Goals as goal

pub returns : goal.returns
returns c =
    let s = c.self.inside in
    subst (λ (v : Stock). IsGreatest (DoesWait v.needs c.args.group v.objects) c.last_waiting.result) c.self.view_is
    (greatest_both s.allocated.needs s.allocated.objects s.declared c.args.group c.last_waiting.result c.self.invariant c.are_declared.ensures c.last_waiting.ensures)
