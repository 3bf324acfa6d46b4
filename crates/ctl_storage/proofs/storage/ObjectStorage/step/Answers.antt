use Rattle.std.proofs.Common.{◌∙◌, Option, Some, None, ap, refl, subst, sym}
use Rattle.std.specs.FinMap.{insert}
use Rattle.ctl_meaning.specs.Objects.{change_in, object_in}
use Rattle.ctl_storage.specs.declared.existing.Allocation.{Allocation}
use Rattle.ctl_storage.specs.declared.existing.Stage.{Stage}
use Rattle.ctl_storage.specs.Allocated.{IsKnown}
use Rattle.ctl_storage.specs.Stages.{with_step}
use Rattle.ctl_storage.specs.Inside.{seen, view_of}
use Rattle.ctl_storage.specs.Storage.{Storage}
use Rattle.ctl_storage.proofs.Calls.{changed_pools, same_pools}
use Rattle.ctl_storage.proofs.Rising.{change_lacking}
use Rattle.ctl_storage.proofs.InStore.{found_none, known_stored, seen_moved, step_keeps}
use Rattle.ctl_storage.proofs.Kept.{kept_moved}
use Rattle.ctl_storage.proofs.Calls.{same_but_objects}
use Rattle.ctl_storage.proofs.storage.ObjectStorage.step.Goals as goal

pub returns-in_default-clause-before : goal.returns-in_default-clause-before
returns-in_default-clause-before c =
    let s = c.self.inside in
    let none : Option Allocation = None in
    subst (λ (v : Storage). IsKnown c.args.number none v.objects) c.self.view_is (known_stored s.objects.values s.store c.args.number none c.self.invariant.each c.in_default.ensures.value)

pub returns-in_default-clause-stepped : goal.returns-in_default-clause-stepped
returns-in_default-clause-stepped c =
    let s = c.self.inside in
    let n = c.args.number in
    let f = with_step c.args.step in
    ap (λ (v : Storage). v.objects) c.self.view_is
    ∙ sym (change_lacking n f c.args.self.now.objects (ap (λ (v : Storage). object_in n v.objects) (sym c.self.view_is) ∙ found_none s.objects.values s.store n (sym c.in_default.ensures.value)))

pub returns-in_default-clause-pools : goal.returns-in_default-clause-pools
returns-in_default-clause-pools c =
    let s = c.self.inside in
    same_pools c.args.self.now (view_of s.objects.values s.sizes.values s.store) c.self.view_is

pub invariant_of-self-2 : goal.invariant_of-self-2
invariant_of-self-2 c =
    let s = c.self.inside in
    let a = c.in-Some.object.now in
    kept_moved s.objects.values s.sizes.values s.located s.store c.args.number a (record a { stage = c.after-object.result }) (sym c.in-Some.ensures.value) refl refl c.self.invariant

pub returns-clause-before : goal.returns-clause-before
returns-clause-before c =
    let s = c.self.inside in
    let before : Option Allocation = Some c.in-Some.object.now in
    subst (λ (v : Storage). IsKnown c.args.number before v.objects) c.self.view_is (known_stored s.objects.values s.store c.args.number before c.self.invariant.each c.in-Some.ensures.value)

pub returns-clause-stepped : goal.returns-clause-stepped
returns-clause-stepped c =
    let s = c.self.inside in
    let n = c.args.number in
    let a = c.in-Some.object.now in
    ap (λ (g : Stage). seen (insert s.objects.values n (record a { stage = g })) s.store) c.after-object.ensures
    ∙ (seen_moved c.args.step s.objects.values s.store n a (sym c.in-Some.ensures.value)
    ∙ ap (λ (v : Storage). change_in n (with_step c.args.step) v.objects) c.self.view_is)

pub returns-clause-pools : goal.returns-clause-pools
returns-clause-pools c =
    let s = c.self.inside in
    let n = c.args.number in
    let a = c.in-Some.object.now in
    changed_pools c.args.self.now (view_of (insert s.objects.values n (record a { stage = c.after-object.result })) s.sizes.values s.store) n (with_step c.args.step) (step_keeps c.args.step) (returns-clause-stepped c)
    (ap (λ (v : Storage). v.sizes) c.self.view_is) (ap (λ (v : Storage). v.blocks) c.self.view_is) (ap (λ (v : Storage). v.given) c.self.view_is)

pub returns-clause-same : goal.returns-clause-same
returns-clause-same c =
    let s = c.self.inside in
    let a = c.in-Some.object.now in
    same_but_objects c.args.self.now (view_of (insert s.objects.values c.args.number (record a { stage = c.after-object.result })) s.sizes.values s.store)
    (ap (λ (v : Storage). v.sizes) c.self.view_is) (ap (λ (v : Storage). v.blocks) c.self.view_is) (ap (λ (v : Storage). v.given) c.self.view_is)
