use Rattle.std.proofs.Common.{◌∙◌, ◌++◌, ◌<◌, [], ◌∷◌, List, ap, replicate, subst, sym}
use Rattle.std.specs.FinMap.{get}
use Rattle.ctl_program.specs.declared.types.Ty.TheVariants.{Record}
use Rattle.ctl_meaning.specs.World as W
use Rattle.ctl_meaning.specs.World.{Object}
use Rattle.ctl_meaning.specs.Changes.{new_object, opened_changes}
use Rattle.ctl_storage.specs.Order.{AreBelow}
use Rattle.ctl_objects.specs.Order.{AreSplit, AreUpTo, IsUpTo, both}
use Rattle.ctl_objects.specs.Pools.{ShowsPools}
use Rattle.ctl_objects.specs.Stock.{Stock, all_of}
use Rattle.ctl_objects.proofs.Both.{all_both, declared_both, ok_both, on_either, on_err, on_ok, split_declared}
use Rattle.ctl_objects.proofs.NewPools.{all_declared_open}
use Rattle.ctl_objects.proofs.object_list.Objects.declare_pool.Goals as goal

pub declare_pool-requires-clause-numbers : goal.declare_pool-requires-clause-numbers
declare_pool-requires-clause-numbers c =
    let s = c.self.inside in
    (all_both (λ o. o.number < c.args.number) s.allocated.objects s.declared (subst (λ (v : Stock). AreBelow c.args.number v.objects) (sym c.self.view_is) c.requires.numbers)).1

pub declare_pool-requires-clause-masters : goal.declare_pool-requires-clause-masters
declare_pool-requires-clause-masters c =
    let s = c.self.inside in
    (all_both (λ o. IsUpTo c.args.master o.origin) s.allocated.objects s.declared (subst (λ (v : Stock). AreUpTo c.args.master v.objects) (sym c.self.view_is) c.requires.masters)).1

pub declare_pool-requires-clause-new : goal.declare_pool-requires-clause-new
declare_pool-requires-clause-new c = ap (λ (v : Stock). get v.sizes c.args.number) c.self.view_is ∙ c.requires.new

pub invariant_of-self : goal.invariant_of-self
unfolding opened_changes
invariant_of-self c =
    let s = c.self.inside in
    let a = c.args in
    let d = c.declare_pool in
    let x = new_object a.number (Record a.record_type) (replicate a.cells 0) (W.Declared a.master) in
    let below = subst (λ (v : Stock). AreBelow a.number v.objects) (sym c.self.view_is) c.requires.numbers in
    subst (λ (l : List Object). AreSplit l d.new.self) (sym d.ensures.objects)
    (on_either d.result _ _ (AreSplit s.allocated.objects d.new.self) d.ensures.ok d.ensures.err
    (λ e. subst (λ (l : List Object). AreSplit s.allocated.objects l) (sym e) (split_declared x s.allocated.objects s.declared tt below c.self.invariant))
    (λ e. subst (λ (l : List Object). AreSplit s.allocated.objects l) (sym e.0) c.self.invariant))

pub returns-clause-ok : goal.returns-clause-ok
unfolding opened_changes
returns-clause-ok c =
    let s = c.self.inside in
    let a = c.args in
    let d = c.declare_pool in
    let x = new_object a.number (Record a.record_type) (replicate a.cells 0) (W.Declared a.master) in
    let below = subst (λ (v : Stock). AreBelow a.number v.objects) (sym c.self.view_is) c.requires.numbers in
    on_ok d.result _ _ d.ensures.ok
    (λ e. ap (λ (l : List Object). both l d.new.self) d.ensures.objects
    ∙ (ap (both s.allocated.objects) e ∙ (declared_both x s.allocated.objects s.declared tt below c.self.invariant ∙ ap (λ (v : Stock). v.objects ++ x ∷ []) c.self.view_is)))

pub returns-clause-pools : goal.returns-clause-pools
unfolding opened_changes
returns-clause-pools c =
    let s = c.self.inside in
    let a = c.args in
    let d = c.declare_pool in
    let o = new_object a.number (Record a.record_type) (replicate a.cells 0) (W.Declared a.master) in
    let below = subst (λ (v : Stock). AreBelow a.number v.objects) (sym c.self.view_is) c.requires.numbers in
    on_ok d.result _ _ (ok_both d.result _ _ d.ensures.ok d.ensures.pools)
    (λ e x h. all_declared_open a.size.block_size a.size.block_count x s.allocated d.new.allocated o s.declared d.new.self
    (subst (λ (l : List Object). AreSplit s.allocated.objects l) (sym e.0) (split_declared o s.allocated.objects s.declared tt below c.self.invariant)) e.0
    (ap (both s.allocated.objects) e.0 ∙ declared_both o s.allocated.objects s.declared tt below c.self.invariant) d.ensures.objects e.1
    (subst (λ (v : Stock). ShowsPools a.number x v) (sym c.self.view_is) h))

pub returns-clause-err : goal.returns-clause-err
returns-clause-err c =
    let s = c.self.inside in
    let d = c.declare_pool in
    on_err d.result _ _ d.ensures.err (λ e. ap (λ (v : Stock). all_of v d.new.self) e.1 ∙ (ap (all_of s.allocated) e.0 ∙ c.self.view_is))
