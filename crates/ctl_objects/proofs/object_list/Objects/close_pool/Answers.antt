use Rattle.std.proofs.Common.{◌∙◌, ap, subst, sym}
use Rattle.std.specs.Prelude.{not}
use Rattle.ctl_meaning.specs.Lists.{keep}
use Rattle.ctl_meaning.specs.Objects.{lies_in_pool}
use Rattle.ctl_objects.specs.Pools.{ShowsPools}
use Rattle.ctl_objects.specs.Stock.{Stock}
use Rattle.ctl_objects.proofs.PoolCalls.{all_shut, both_closed, split_closed}
use Rattle.ctl_objects.proofs.object_list.Objects.close_pool.Goals as goal

pub invariant_of-self : goal.invariant_of-self
invariant_of-self c = let s = c.self.inside in split_closed c.args.number s.allocated.objects c.close_pool.new.self.objects s.declared c.self.invariant c.close_pool.ensures.objects

pub returns-clause-objects : goal.returns-clause-objects
returns-clause-objects c =
    let s = c.self.inside in
    both_closed c.args.number s.allocated.objects c.close_pool.new.self.objects s.declared c.self.invariant c.close_pool.ensures.objects ∙ ap (λ (v : Stock). keep (λ o. not (lies_in_pool c.args.number o.origin)) v.objects) c.self.view_is

pub returns-clause-pools : goal.returns-clause-pools
returns-clause-pools c = λ next x h.
    let s = c.self.inside in
    all_shut next c.args.number x s.allocated c.close_pool.new.self s.declared c.self.invariant (invariant_of-self c) c.close_pool.ensures.objects (λ y. c.close_pool.ensures.pools next y) (subst (λ (v : Stock). ShowsPools next x v) (sym c.self.view_is) h)
