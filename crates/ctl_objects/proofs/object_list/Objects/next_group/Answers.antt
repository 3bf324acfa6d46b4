use Rattle.std.proofs.Common.{◌<◌, ◌^◌, length, subst}
use Rattle.ctl_meaning.specs.Lists.{keep}
use Rattle.ctl_groups.specs.Groups.{IsNextGroup, is_allocated}
use Rattle.ctl_objects.specs.Stock.{Stock}
use Rattle.ctl_objects.proofs.Waits.{few_allocated, next_both}
use Rattle.ctl_objects.proofs.object_list.Objects.next_group.Goals as goal

pub returns-clause-next : goal.returns-clause-next
returns-clause-next c =
    let s = c.self.inside in
    subst (λ (v : Stock). IsNextGroup v.needs c.args.start c.args.last c.next_group.result v.objects) c.self.view_is
    (next_both s.allocated.needs s.allocated.objects s.declared c.args.start c.args.last c.next_group.result c.self.invariant c.are_declared.ensures c.next_group.ensures.next)

pub returns-clause-few : goal.returns-clause-few
returns-clause-few c =
    let s = c.self.inside in
    subst (λ (v : Stock). length (keep (λ o. is_allocated o.origin) v.objects) < 2 ^ 63) c.self.view_is (few_allocated s.allocated.objects s.declared c.next_group.ensures.few c.self.invariant c.are_declared.ensures)
