use Rattle.std.proofs.Common.{◌∙◌, List, ap, subst, sym}
use Rattle.std.specs.Prelude.{not}
use Rattle.ctl_meaning.specs.World.{Object}
use Rattle.ctl_meaning.specs.Lists.{keep}
use Rattle.ctl_meaning.specs.Objects.{ends_with_master}
use Rattle.ctl_objects.specs.Order.{AreSplit, AreUpTo, IsUpTo, both}
use Rattle.ctl_objects.specs.Pools.{ShowsPools}
use Rattle.ctl_objects.specs.Stock.{Stock}
use Rattle.ctl_objects.proofs.Both.{all_both, kept_both, split_kept}
use Rattle.ctl_objects.proofs.Left.{all_left}
use Rattle.ctl_objects.proofs.object_list.Objects.close_master.Goals as goal

pub drop_pools-requires : goal.drop_pools-requires
drop_pools-requires c =
    let s = c.self.inside in
    (all_both (λ o. IsUpTo c.args.master o.origin) s.allocated.objects s.declared (subst (λ (v : Stock). AreUpTo c.args.master v.objects) (sym c.self.view_is) c.requires)).1

pub close_master-requires : goal.close_master-requires
close_master-requires c =
    let s = c.self.inside in
    (all_both (λ o. IsUpTo c.args.master o.origin) s.allocated.objects s.declared (subst (λ (v : Stock). AreUpTo c.args.master v.objects) (sym c.self.view_is) c.requires)).1

pub invariant_of-self : goal.invariant_of-self
invariant_of-self c =
    let s = c.self.inside in
    let p = λ (o : Object). not (ends_with_master c.args.master c.args.sets.now o.origin) in
    subst (λ (l : List Object). AreSplit l c.close_master.new.self) (sym (c.drop_pools.ensures.objects ∙ c.close_sets.ensures.objects c.args.master))
    (subst (λ (l : List Object). AreSplit (keep p s.allocated.objects) l) (sym (c.close_master.ensures c.args.sets.now)) (split_kept p s.allocated.objects s.declared c.self.invariant))

pub returns-clause-objects : goal.returns-clause-objects
returns-clause-objects c =
    let s = c.self.inside in
    let p = λ (o : Object). not (ends_with_master c.args.master c.args.sets.now o.origin) in
    ap (λ (l : List Object). both l c.close_master.new.self) (c.drop_pools.ensures.objects ∙ c.close_sets.ensures.objects c.args.master)
    ∙ (ap (both (keep p s.allocated.objects)) (c.close_master.ensures c.args.sets.now)
    ∙ (kept_both p s.allocated.objects s.declared c.self.invariant
    ∙ ap (λ (v : Stock). keep p v.objects) c.self.view_is))

pub returns-clause-pools : goal.returns-clause-pools
returns-clause-pools c = λ next x h.
    let s = c.self.inside in
    all_left next c.args.master c.args.sets.now x s.allocated c.drop_pools.new.allocated s.declared c.close_master.new.self c.self.invariant (invariant_of-self c) (c.drop_pools.ensures.objects ∙ c.close_sets.ensures.objects c.args.master)
    (c.close_master.ensures c.args.sets.now) (λ y shown. c.drop_pools.ensures.pools next y (c.close_sets.ensures.pools next y shown)) (subst (λ (v : Stock). ShowsPools next x v) (sym c.self.view_is) h)
