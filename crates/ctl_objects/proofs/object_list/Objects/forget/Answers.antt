use Rattle.std.proofs.Common.{◌∙◌, List, ap, subst, sym}
use Rattle.std.specs.Prelude.{IfSome, nat_eq, not}
use Rattle.ctl_meaning.specs.World.{Object}
use Rattle.ctl_meaning.specs.Lists.{keep}
use Rattle.ctl_meaning.specs.Objects.{object_in}
use Rattle.ctl_objects.specs.Order.{AreSplit, IsAllocated, both}
use Rattle.ctl_objects.specs.Pools.{KeepsShown}
use Rattle.ctl_objects.specs.Stock.{Stock, all_of}
use Rattle.ctl_objects.proofs.Both.{keep_lacking, kept_both, not_declared, split_kept}
use Rattle.std.proofs.Common.{◌≡◌, subst, List, ap, sym, ◌∙◌}
use Rattle.ctl_objects.specs.Order.{both}
use Rattle.ctl_objects.proofs.Pools.{all_but_blocks}
use Rattle.ctl_objects.proofs.PoolCalls.{all_gone}
use Rattle.ctl_objects.proofs.object_list.Objects.forget.Goals as goal

pub invariant_of-self : goal.invariant_of-self
invariant_of-self c =
    let s = c.self.inside in
    let n = c.args.number in
    let p = λ (o : Object). not (nat_eq o.number n) in
    let allocated = subst (λ (v : Stock). IfSome (object_in n v.objects) (λ o. IsAllocated o.origin)) (sym c.self.view_is) c.requires in
    let stay = keep_lacking n s.declared c.self.invariant.second (not_declared n s.allocated.objects s.declared c.self.invariant allocated (c.are_declared.ensures n)) in
    subst (λ (l : List Object). AreSplit l s.declared) (sym c.forget.ensures.objects)
    (subst (λ (l : List Object). AreSplit (keep p s.allocated.objects) l) stay (split_kept p s.allocated.objects s.declared c.self.invariant))

pub returns-clause-objects : goal.returns-clause-objects
returns-clause-objects c =
    let s = c.self.inside in
    let n = c.args.number in
    let p = λ (o : Object). not (nat_eq o.number n) in
    let allocated = subst (λ (v : Stock). IfSome (object_in n v.objects) (λ o. IsAllocated o.origin)) (sym c.self.view_is) c.requires in
    let stay = keep_lacking n s.declared c.self.invariant.second (not_declared n s.allocated.objects s.declared c.self.invariant allocated (c.are_declared.ensures n)) in
    ap (λ (l : List Object). both l s.declared) c.forget.ensures.objects
    ∙ (ap (both (keep p s.allocated.objects)) (sym stay)
    ∙ (kept_both p s.allocated.objects s.declared c.self.invariant
    ∙ ap (λ (v : Stock). keep p v.objects) c.self.view_is))

pub returns-clause-same : goal.returns-clause-same
returns-clause-same c =
    let s = c.self.inside in
    subst (λ (v : Stock). all_of c.forget.new.self s.declared ≡ record v { objects = both c.forget.new.self.objects s.declared; blocks = c.forget.new.self.blocks }) c.self.view_is (all_but_blocks s.allocated c.forget.new.self s.declared s.declared c.forget.ensures.same)

pub returns-clause-pools : goal.returns-clause-pools
returns-clause-pools c =
    let s = c.self.inside in
    subst (λ (v : Stock). KeepsShown v (all_of c.forget.new.self s.declared)) c.self.view_is
    (λ next x h. all_gone next x s.allocated c.forget.new.self s.declared (λ o. not (nat_eq o.number c.args.number)) c.self.invariant (invariant_of-self c) c.forget.ensures.objects c.forget.ensures.pools h)
