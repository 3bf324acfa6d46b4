use Rattle.std.proofs.Common.{◌∙◌, ◌++◌, ◌<◌, [], ◌∷◌, List, ap, replicate, subst, sym}
use Rattle.ctl_meaning.specs.World as W
use Rattle.ctl_meaning.specs.World.{Object}
use Rattle.ctl_meaning.specs.Changes.{new_object, opened_changes}
use Rattle.ctl_objects.specs.Order.{AreSplit, both}
use Rattle.ctl_storage.specs.Order.{AreBelow}
use Rattle.ctl_objects.specs.Stock.{Stock, all_of}
use Rattle.ctl_objects.proofs.Both.{all_both, allocated_both, ok_both, on_either, on_err, on_ok, split_allocated}
use Rattle.std.proofs.Common.{◌≡◌, subst, List, ap, sym, ◌∙◌}
use Rattle.ctl_objects.specs.Order.{both}
use Rattle.ctl_objects.proofs.Pools.{all_same}
use Rattle.ctl_objects.proofs.Unchanged.{newest_shown}
use Rattle.ctl_objects.proofs.Both.{ok_both}
use Rattle.ctl_objects.proofs.object_list.Objects.allocate.Goals as goal

pub allocate-requires : goal.allocate-requires
allocate-requires c =
    let s = c.self.inside in
    (all_both (λ o. o.number < c.args.number) s.allocated.objects s.declared (subst (λ (v : Stock). AreBelow c.args.number v.objects) (sym c.self.view_is) c.requires)).0

pub invariant_of-self : goal.invariant_of-self
unfolding opened_changes
invariant_of-self c =
    let s = c.self.inside in
    let a = c.args in
    let x = new_object a.number a.ty (replicate a.cells 0) (W.Allocated a.collection W.Standard) in
    let below = subst (λ (v : Stock). AreBelow a.number v.objects) (sym c.self.view_is) c.requires in
    on_either c.allocate.result _ _ (AreSplit c.allocate.new.self.objects s.declared) c.allocate.ensures.ok c.allocate.ensures.err
    (λ e. subst (λ (l : List Object). AreSplit l s.declared) (sym e) (split_allocated x s.allocated.objects s.declared tt below c.self.invariant))
    (λ e. subst (λ (v : Stock). AreSplit v.objects s.declared) (sym e) c.self.invariant)

pub returns-clause-ok : goal.returns-clause-ok
unfolding opened_changes
returns-clause-ok c =
    let s = c.self.inside in
    let a = c.args in
    let x = new_object a.number a.ty (replicate a.cells 0) (W.Allocated a.collection W.Standard) in
    let below = subst (λ (v : Stock). AreBelow a.number v.objects) (sym c.self.view_is) c.requires in
    on_ok c.allocate.result _ _ c.allocate.ensures.ok
    (λ e. ap (λ (l : List Object). both l s.declared) e ∙ (allocated_both x s.allocated.objects s.declared tt below c.self.invariant ∙ ap (λ (v : Stock). v.objects ++ x ∷ []) c.self.view_is))

pub returns-clause-err : goal.returns-clause-err
returns-clause-err c = let s = c.self.inside in on_err c.allocate.result _ _ c.allocate.ensures.err (λ e. ap (λ (v : Stock). all_of v s.declared) e ∙ c.self.view_is)

pub returns-clause-same : goal.returns-clause-same
returns-clause-same c =
    let s = c.self.inside in
    on_ok c.allocate.result _ _ c.allocate.ensures.same (λ e. subst (λ (v : Stock). all_of c.allocate.new.self s.declared ≡ record v { objects = both c.allocate.new.self.objects s.declared }) c.self.view_is (all_same s.allocated c.allocate.new.self s.declared s.declared e))

pub returns-clause-pools : goal.returns-clause-pools
unfolding opened_changes
returns-clause-pools c =
    let s = c.self.inside in
    let a = c.args in
    on_ok c.allocate.result _ _ (ok_both c.allocate.result _ _ (returns-clause-same c) (returns-clause-ok c)) (λ e. newest_shown a.self.now (all_of c.allocate.new.self s.declared) (new_object a.number a.ty (replicate a.cells 0) (W.Allocated a.collection W.Standard)) e.0 e.1)
