use Rattle.std.proofs.Common.{◌≡◌, ◌∙◌, ◌++◌, ◌<◌, [], ◌∷◌, List, ap, replicate, subst, sym, true}
use Rattle.ctl_meaning.specs.World as W
use Rattle.ctl_meaning.specs.World.{Object}
use Rattle.ctl_meaning.specs.Changes.{new_object, opened_changes}
use Rattle.ctl_storage.specs.Order.{AreBelow}
use Rattle.ctl_storage.specs.Storage.{exists}
use Rattle.ctl_storage.proofs.Rising.{none_above}
use Rattle.ctl_objects.specs.Order.{AreSplit, both}
use Rattle.ctl_objects.specs.Pools.{ShowsPools}
use Rattle.ctl_objects.specs.Stock.{Stock, all_of}
use Rattle.ctl_objects.proofs.Both.{all_both, allocated_both, if_ok, on_err, split_allocated}
use Rattle.ctl_objects.proofs.PoolCalls.{all_served, answer_taken}
use Rattle.ctl_objects.proofs.Served.{if_exhausted, if_served, served_both, served_either}
use Rattle.ctl_objects.proofs.object_list.Objects.allocate_in_pool.Goals as goal

pub allocate_in_pool-requires-clause-below : goal.allocate_in_pool-requires-clause-below
allocate_in_pool-requires-clause-below c =
    let s = c.self.inside in
    (all_both (λ o. o.number < c.args.number) s.allocated.objects s.declared (subst (λ (v : Stock). AreBelow c.args.number v.objects) (sym c.self.view_is) c.requires.below)).0

pub invariant_of-self : goal.invariant_of-self
unfolding opened_changes
invariant_of-self c =
    let s = c.self.inside in
    let a = c.args in
    let d = c.allocate_in_pool in
    let below = subst (λ (v : Stock). AreBelow a.number v.objects) (sym c.self.view_is) c.requires.below in
    served_either d.result _ _ _ (AreSplit d.new.self.objects s.declared) d.ensures.objects d.ensures.exhausted d.ensures.err
    (λ address e. subst (λ (l : List Object). AreSplit l s.declared) (sym e)
    (split_allocated (new_object a.number a.ty (replicate a.cells 0) (W.Allocated a.collection (W.InBlock a.pool address))) s.allocated.objects s.declared tt below c.self.invariant))
    (λ e. subst (λ (v : Stock). AreSplit v.objects s.declared) (sym e) c.self.invariant)
    (λ e. subst (λ (v : Stock). AreSplit v.objects s.declared) (sym e) c.self.invariant)

pub returns-clause-answer : goal.returns-clause-answer
returns-clause-answer c =
    let s = c.self.inside in
    if_ok c.allocate_in_pool.result _ _ c.allocate_in_pool.ensures.answer
    (λ r f next x h. answer_taken next c.args.pool c.args.size x s.allocated s.declared r c.self.invariant (subst (λ (v : Stock). exists c.args.pool v.objects ≡ true) (sym c.self.view_is) c.requires.exists) f
    (subst (λ (v : Stock). ShowsPools next x v) (sym c.self.view_is) h))

pub returns-clause-objects : goal.returns-clause-objects
unfolding opened_changes
returns-clause-objects c =
    let s = c.self.inside in
    let a = c.args in
    let below = subst (λ (v : Stock). AreBelow a.number v.objects) (sym c.self.view_is) c.requires.below in
    if_served c.allocate_in_pool.result _ _ c.allocate_in_pool.ensures.objects
    (λ address e.
    let o = new_object a.number a.ty (replicate a.cells 0) (W.Allocated a.collection (W.InBlock a.pool address)) in
    ap (λ (l : List Object). both l s.declared) e ∙ (allocated_both o s.allocated.objects s.declared tt below c.self.invariant ∙ ap (λ (v : Stock). v.objects ++ o ∷ []) c.self.view_is))

pub returns-clause-pools : goal.returns-clause-pools
unfolding opened_changes
returns-clause-pools c =
    let s = c.self.inside in
    let a = c.args in
    let d = c.allocate_in_pool in
    let below = subst (λ (v : Stock). AreBelow a.number v.objects) (sym c.self.view_is) c.requires.below in
    let none = none_above a.number s.declared (all_both (λ z. z.number < a.number) s.allocated.objects s.declared below).1 in
    if_served d.result _ _ (served_both d.result _ _ d.ensures.objects d.ensures.pools)
    (λ address e x h.
    let o = new_object a.number a.ty (replicate a.cells 0) (W.Allocated a.collection (W.InBlock a.pool address)) in
    all_served a.pool address a.size o x s.allocated d.new.self s.declared c.self.invariant
    (subst (λ (l : List Object). AreSplit l s.declared) (sym e.0) (split_allocated o s.allocated.objects s.declared tt below c.self.invariant)) e.0 none
    (subst (λ (v : Stock). exists a.pool v.objects ≡ true) (sym c.self.view_is) c.requires.exists) e.1 (subst (λ (v : Stock). ShowsPools a.number x v) (sym c.self.view_is) h))

pub returns-clause-exhausted : goal.returns-clause-exhausted
returns-clause-exhausted c =
    let s = c.self.inside in
    if_exhausted c.allocate_in_pool.result _ _ c.allocate_in_pool.ensures.exhausted (λ e. ap (λ (v : Stock). all_of v s.declared) e ∙ c.self.view_is)

pub returns-clause-err : goal.returns-clause-err
returns-clause-err c =
    let s = c.self.inside in
    on_err c.allocate_in_pool.result _ _ c.allocate_in_pool.ensures.err (λ e. ap (λ (v : Stock). all_of v s.declared) e ∙ c.self.view_is)
