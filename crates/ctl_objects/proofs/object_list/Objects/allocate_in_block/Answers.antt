use Rattle.std.proofs.Common.{◌∙◌, ◌++◌, ◌<◌, [], ◌∷◌, List, ap, replicate, subst, sym}
use Rattle.ctl_meaning.specs.World as W
use Rattle.ctl_meaning.specs.World.{Object}
use Rattle.ctl_meaning.specs.Changes.{new_object, opened_changes}
use Rattle.ctl_storage.specs.Calls.{is_fit_at, placing}
use Rattle.ctl_storage.specs.Order.{AreBelow}
use Rattle.ctl_storage.proofs.Rising.{none_above}
use Rattle.ctl_objects.specs.Order.{AreSplit, both}
use Rattle.ctl_objects.specs.Pools.{ShowsPools}
use Rattle.ctl_objects.specs.Stock.{Stock}
use Rattle.ctl_objects.proofs.Both.{all_both, allocated_both, if_ok, split_allocated}
use Rattle.ctl_objects.proofs.PoolCalls.{all_placed, if_placed, placed_both, placed_either}
use Rattle.ctl_objects.proofs.PoolCalls.{answer_placed}
use Rattle.ctl_storage.specs.Storage.{exists}
use Rattle.std.proofs.Common.{true}
use Rattle.std.proofs.Common.{List, ap, subst, sym, ◌∙◌, ◌≡◌}
use Rattle.ctl_objects.proofs.object_list.Objects.allocate_in_block.Goals as goal

pub allocate_in_block-requires-clause-below : goal.allocate_in_block-requires-clause-below
allocate_in_block-requires-clause-below c =
    let s = c.self.inside in
    (all_both (λ o. o.number < c.args.number) s.allocated.objects s.declared (subst (λ (v : Stock). AreBelow c.args.number v.objects) (sym c.self.view_is) c.requires.below)).0

pub invariant_of-self : goal.invariant_of-self
unfolding opened_changes
invariant_of-self c =
    let s = c.self.inside in
    let a = c.args in
    let o = new_object a.number a.ty (replicate a.cells 0) (W.Allocated a.collection (W.InBlock a.spot.pool a.spot.address)) in
    let below = subst (λ (v : Stock). AreBelow a.number v.objects) (sym c.self.view_is) c.requires.below in
    placed_either c.allocate_in_block.result _ _ _ (AreSplit c.allocate_in_block.new.self.objects s.declared) c.allocate_in_block.ensures.objects c.allocate_in_block.ensures.refused c.allocate_in_block.ensures.err
    (λ e. subst (λ (l : List Object). AreSplit l s.declared) (sym e) (split_allocated o s.allocated.objects s.declared tt below c.self.invariant))
    (λ e. subst (λ (v : Stock). AreSplit v.objects s.declared) (sym e) c.self.invariant)
    (λ e. subst (λ (v : Stock). AreSplit v.objects s.declared) (sym e) c.self.invariant)

pub returns-clause-objects : goal.returns-clause-objects
unfolding opened_changes
returns-clause-objects c =
    let s = c.self.inside in
    let a = c.args in
    let o = new_object a.number a.ty (replicate a.cells 0) (W.Allocated a.collection (W.InBlock a.spot.pool a.spot.address)) in
    let below = subst (λ (v : Stock). AreBelow a.number v.objects) (sym c.self.view_is) c.requires.below in
    if_placed c.allocate_in_block.result _ _ c.allocate_in_block.ensures.objects
    (λ e. ap (λ (l : List Object). both l s.declared) e ∙ (allocated_both o s.allocated.objects s.declared tt below c.self.invariant ∙ ap (λ (v : Stock). v.objects ++ o ∷ []) c.self.view_is))

pub returns-clause-pools : goal.returns-clause-pools
unfolding opened_changes
returns-clause-pools c =
    let s = c.self.inside in
    let a = c.args in
    let o = new_object a.number a.ty (replicate a.cells 0) (W.Allocated a.collection (W.InBlock a.spot.pool a.spot.address)) in
    let below = subst (λ (v : Stock). AreBelow a.number v.objects) (sym c.self.view_is) c.requires.below in
    let none = none_above a.number s.declared (all_both (λ z. z.number < a.number) s.allocated.objects s.declared below).1 in
    if_placed c.allocate_in_block.result _ _ (placed_both c.allocate_in_block.result _ _ c.allocate_in_block.ensures.objects c.allocate_in_block.ensures.pools)
    (λ e x h. all_placed a.spot.pool a.spot.address o x s.allocated c.allocate_in_block.new.self s.declared c.self.invariant
    (subst (λ (l : List Object). AreSplit l s.declared) (sym e.0) (split_allocated o s.allocated.objects s.declared tt below c.self.invariant)) e.0 none e.1 (subst (λ (v : Stock). ShowsPools a.number x v) (sym c.self.view_is) h))

pub returns-clause-answer : goal.returns-clause-answer
returns-clause-answer c =
    let s = c.self.inside in
    let a = c.args in
    if_ok c.allocate_in_block.result _ _ c.allocate_in_block.ensures.answer (λ r f next x h.
    answer_placed next a.spot.pool a.spot.address a.size x s.allocated s.declared r c.self.invariant (subst (λ (v : Stock). exists a.spot.pool v.objects ≡ true) (sym c.self.view_is) c.requires.exists) f (subst (λ (v : Stock). ShowsPools next x v) (sym c.self.view_is) h)
    ∙ ap (λ (v : Stock). placing (is_fit_at a.spot.pool a.spot.address a.size v.objects x)) c.self.view_is)
