use Rattle.std.proofs.Common.{◌∙◌, List, ap, subst, sym}
use Rattle.ctl_meaning.specs.World.{Object}
use Rattle.ctl_objects.specs.Order.{AreSplit, both}
use Rattle.ctl_objects.specs.Pools.{IsOwner, ShowsPools}
use Rattle.ctl_objects.specs.Stock.{Stock, all_of}
use Rattle.ctl_objects.proofs.Both.{on_err, on_ok}
use Rattle.ctl_objects.proofs.PoolCalls.{all_opened}
use Rattle.ctl_objects.proofs.object_list.Objects.open_pool.Goals as goal

pub invariant_of-self : goal.invariant_of-self
invariant_of-self c = let s = c.self.inside in subst (λ (l : List Object). AreSplit l s.declared) (sym c.open_pool.ensures.objects) c.self.invariant

pub returns-clause-objects : goal.returns-clause-objects
returns-clause-objects c = let s = c.self.inside in ap (λ (l : List Object). both l s.declared) c.open_pool.ensures.objects ∙ ap (λ (v : Stock). v.objects) c.self.view_is

pub returns-clause-err : goal.returns-clause-err
returns-clause-err c = let s = c.self.inside in on_err c.open_pool.result _ _ c.open_pool.ensures.err (λ e. ap (λ (v : Stock). all_of v s.declared) e ∙ c.self.view_is)

pub returns-clause-pools : goal.returns-clause-pools
returns-clause-pools c =
    let s = c.self.inside in
    let a = c.args in
    on_ok c.open_pool.result _ _ c.open_pool.ensures.pools (λ f next x less h.
    all_opened next a.number a.size.block_size a.size.block_count x s.allocated c.open_pool.new.self s.declared c.self.invariant c.open_pool.ensures.objects (subst (λ (v : Stock). IsOwner a.number v.objects) (sym c.self.view_is) c.requires.owner)
    (λ y. f next y less) (subst (λ (v : Stock). ShowsPools next x v) (sym c.self.view_is) h))
