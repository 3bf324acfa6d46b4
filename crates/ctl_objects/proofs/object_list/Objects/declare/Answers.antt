use Rattle.std.proofs.Common.{◌∙◌, ◌++◌, ◌<◌, [], ◌∷◌, List, ap, replicate, refl, subst, sym}
use Rattle.ctl_program.specs.declared.types.Ty.TheVariants.{Record}
use Rattle.ctl_meaning.specs.World as W
use Rattle.ctl_meaning.specs.World.{Object}
use Rattle.ctl_meaning.specs.Changes.{new_object, opened_changes}
use Rattle.ctl_objects.specs.Order.{AreSplit, AreUpTo, IsUpTo, both}
use Rattle.ctl_storage.specs.Order.{AreBelow}
use Rattle.ctl_objects.specs.Stock.{Stock, all_of}
use Rattle.ctl_objects.proofs.Both.{all_both, declared_both, on_either, on_err, on_ok, split_declared}
use Rattle.std.proofs.Common.{◌≡◌, refl, subst, List, ap, sym, ◌∙◌}
use Rattle.ctl_objects.specs.Order.{both}
use Rattle.ctl_objects.proofs.Pools.{all_same}
use Rattle.ctl_objects.proofs.Unchanged.{newest_shown}
use Rattle.ctl_objects.proofs.Both.{ok_both}
use Rattle.ctl_objects.proofs.object_list.Objects.declare.Goals as goal

pub declare-requires-clause-numbers : goal.declare-requires-clause-numbers
declare-requires-clause-numbers c =
    let s = c.self.inside in
    (all_both (λ o. o.number < c.args.number) s.allocated.objects s.declared (subst (λ (v : Stock). AreBelow c.args.number v.objects) (sym c.self.view_is) c.requires.numbers)).1

pub declare-requires-clause-masters : goal.declare-requires-clause-masters
declare-requires-clause-masters c =
    let s = c.self.inside in
    (all_both (λ o. IsUpTo c.args.master o.origin) s.allocated.objects s.declared (subst (λ (v : Stock). AreUpTo c.args.master v.objects) (sym c.self.view_is) c.requires.masters)).1

pub invariant_of-self : goal.invariant_of-self
unfolding opened_changes
invariant_of-self c =
    let s = c.self.inside in
    let a = c.args in
    let x = new_object a.number (Record a.record_type) (replicate a.cells 0) (W.Declared a.master) in
    let below = subst (λ (v : Stock). AreBelow a.number v.objects) (sym c.self.view_is) c.requires.numbers in
    on_either c.declare.result _ _ (AreSplit s.allocated.objects c.declare.new.self) c.declare.ensures.ok c.declare.ensures.err
    (λ e. subst (λ (l : List Object). AreSplit s.allocated.objects l) (sym e) (split_declared x s.allocated.objects s.declared tt below c.self.invariant))
    (λ e. subst (λ (l : List Object). AreSplit s.allocated.objects l) (sym e) c.self.invariant)

pub returns-clause-ok : goal.returns-clause-ok
unfolding opened_changes
returns-clause-ok c =
    let s = c.self.inside in
    let a = c.args in
    let x = new_object a.number (Record a.record_type) (replicate a.cells 0) (W.Declared a.master) in
    let below = subst (λ (v : Stock). AreBelow a.number v.objects) (sym c.self.view_is) c.requires.numbers in
    on_ok c.declare.result _ _ c.declare.ensures.ok
    (λ e. ap (both s.allocated.objects) e ∙ (declared_both x s.allocated.objects s.declared tt below c.self.invariant ∙ ap (λ (v : Stock). v.objects ++ x ∷ []) c.self.view_is))

pub returns-clause-err : goal.returns-clause-err
returns-clause-err c = let s = c.self.inside in on_err c.declare.result _ _ c.declare.ensures.err (λ e. ap (all_of s.allocated) e ∙ c.self.view_is)

pub returns-clause-same : goal.returns-clause-same
returns-clause-same c =
    let s = c.self.inside in
    on_ok c.declare.result _ _ c.declare.ensures.ok (λ e. subst (λ (v : Stock). all_of s.allocated c.declare.new.self ≡ record v { objects = both s.allocated.objects c.declare.new.self }) c.self.view_is (all_same s.allocated s.allocated s.declared c.declare.new.self refl))

pub returns-clause-pools : goal.returns-clause-pools
unfolding opened_changes
returns-clause-pools c =
    let s = c.self.inside in
    let a = c.args in
    on_ok c.declare.result _ _ (ok_both c.declare.result _ _ (returns-clause-same c) (returns-clause-ok c)) (λ e. newest_shown a.self.now (all_of s.allocated c.declare.new.self) (new_object a.number (Record a.record_type) (replicate a.cells 0) (W.Declared a.master)) e.0 e.1)
