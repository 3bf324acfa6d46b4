use Rattle.std.proofs.Common.{◌≡◌, ◌∙◌, ◌++◌, [], ◌∷◌, ap, replicate, refl, subst, sym}
use Rattle.std.specs.FinMap.{get, insert}
use Rattle.pool_store.specs.Store.{Store}
use Rattle.ctl_meaning.specs.World as W
use Rattle.ctl_meaning.specs.World.{Object}
use Rattle.ctl_meaning.specs.Changes.{new_object, opened_changes}
use Rattle.ctl_storage.specs.declared.existing.Allocation.{Allocation}
use Rattle.ctl_storage.specs.declared.existing.Place.TheVariants.{Standard}
use Rattle.ctl_storage.specs.Order.{AreBelow}
use Rattle.ctl_storage.specs.Inside.{AreStored, seen, view_of}
use Rattle.ctl_storage.specs.Storage.{Storage}
use Rattle.ctl_storage.proofs.Calls.{new_pools}
use Rattle.ctl_storage.proofs.InStore.{new_kept, new_number, seen_with}
use Rattle.ctl_storage.proofs.Kept.{kept_new}
use Rattle.ctl_storage.proofs.Seen.{Objects}
use Rattle.ctl_storage.proofs.Calls.{same_but_objects}
use Rattle.ctl_storage.proofs.storage.ObjectStorage.add.Goals as goal

pub standard-requires : goal.standard-requires
standard-requires c =
    let s = c.self.inside in
    new_number s.objects.values s.store c.args.number c.self.invariant.each (subst (λ (v : Storage). AreBelow c.args.number v.objects) (sym c.self.view_is) c.requires)

pub invariant_of-self-in-Ok : goal.invariant_of-self-in-Ok
invariant_of-self-in-Ok c =
    let s = c.self.inside in
    let a = c.args in
    let x : Allocation = record { ty = a.ty; collection = a.collection; place = Standard; cells = a.cells; stage = c.start.result } in
    let objects : c.put_new.new.self.values ≡ insert s.objects.values a.number x = c.put_new.ensures.values ∙ ap (λ (m : Objects). insert m a.number x) c.reserve.ensures.values in
    let below = subst (λ (v : Storage). AreBelow a.number v.objects) (sym c.self.view_is) c.requires in
    subst (λ (m : Objects). AreStored m s.sizes.values s.located c.standard.new.self) (sym objects)
    (subst (λ (t : Store). AreStored (insert s.objects.values a.number x) s.sizes.values s.located t) (sym c.in-Ok.ensures.ok)
    (kept_new s.objects.values s.sizes.values s.located s.store a.number x (new_kept s.objects.values s.store a.number below) refl c.self.invariant))

pub returns-in-Ok-clause-objects : goal.returns-in-Ok-clause-objects
returns-in-Ok-clause-objects c =
    let s = c.self.inside in
    let a = c.args in
    let x : Allocation = record { ty = a.ty; collection = a.collection; place = Standard; cells = a.cells; stage = c.start.result } in
    let objects : c.put_new.new.self.values ≡ insert s.objects.values a.number x = c.put_new.ensures.values ∙ ap (λ (m : Objects). insert m a.number x) c.reserve.ensures.values in
    ap (λ (m : Objects). seen m c.standard.new.self) objects
    ∙ (seen_with s.objects.values s.store c.standard.new.self a.number x (ap (λ (t : Store). t.objects) c.in-Ok.ensures.ok) (subst (λ (v : Storage). AreBelow a.number v.objects) (sym c.self.view_is) c.requires) c.start.ensures
    ∙ ap (λ (v : Storage). v.objects ++ new_object a.number a.ty (replicate a.cells 0) (W.Allocated a.collection W.Standard) ∷ []) c.self.view_is)

pub returns-in-Ok-clause-pools : goal.returns-in-Ok-clause-pools
unfolding opened_changes
returns-in-Ok-clause-pools c =
    let s = c.self.inside in
    let a = c.args in
    new_pools c.args.self.now (view_of c.put_new.new.self.values s.sizes.values c.standard.new.self) (new_object a.number a.ty (replicate a.cells 0) (W.Allocated a.collection W.Standard)) (returns-in-Ok-clause-objects c)
    (ap (λ (v : Storage). v.sizes) c.self.view_is)
    (ap (λ (t : Store). t.blocks) c.in-Ok.ensures.ok ∙ ap (λ (v : Storage). v.blocks) c.self.view_is)
    (ap (λ (t : Store). t.given) c.in-Ok.ensures.ok ∙ ap (λ (v : Storage). v.given) c.self.view_is)

pub returns-in-Ok-clause-same : goal.returns-in-Ok-clause-same
returns-in-Ok-clause-same c =
    let s = c.self.inside in
    same_but_objects c.args.self.now (view_of c.put_new.new.self.values s.sizes.values c.standard.new.self)
    (ap (λ (v : Storage). v.sizes) c.self.view_is)
    (ap (λ (t : Store). t.blocks) c.in-Ok.ensures.ok ∙ ap (λ (v : Storage). v.blocks) c.self.view_is)
    (ap (λ (t : Store). t.given) c.in-Ok.ensures.ok ∙ ap (λ (v : Storage). v.given) c.self.view_is)

pub put_new-requires-clause-new : goal.put_new-requires-clause-new
put_new-requires-clause-new c =
    let s = c.self.inside in
    ap (λ (m : Objects). get m c.args.number) c.reserve.ensures.values ∙ new_kept s.objects.values s.store c.args.number (subst (λ (v : Storage). AreBelow c.args.number v.objects) (sym c.self.view_is) c.requires)
