use Rattle.std.proofs.Common.{◌≡◌, ◌∙◌, ap, refl, subst, sym}
use Rattle.std.specs.Prelude.{nat_eq, not}
use Rattle.std.specs.FinMap.{get, remove}
use Rattle.pool_store.specs.Store.{Store}
use Rattle.ctl_meaning.specs.Lists.{keep}
use Rattle.ctl_storage.specs.Allocated.{IsKnown, is_member}
use Rattle.ctl_storage.specs.Inside.{AreStored, seen, view_of}
use Rattle.ctl_storage.specs.Storage.{KeepsPools, Storage}
use Rattle.ctl_storage.proofs.Calls.{left_pools}
use Rattle.ctl_storage.proofs.InStore.{known_stored, member_stored, seen_without}
use Rattle.ctl_storage.proofs.Kept.{kept_without, vacated}
use Rattle.ctl_storage.proofs.Seen.{Objects, rise_seen}
use Rattle.ctl_storage.proofs.Shown.{IsVacated}
use Rattle.ctl_storage.proofs.Calls.{same_but_blocks}
use Rattle.ctl_storage.proofs.storage.ObjectStorage.remove.Goals as goal

pub invariant_of-self : goal.invariant_of-self
invariant_of-self c =
    let s = c.self.inside in
    let n = c.args.number in
    subst (λ (m : Objects). AreStored m s.sizes.values c.unlist_gone.new.located c.vacate.new.self) (sym c.remove-removed.ensures.values)
    (subst (λ (t : Store). AreStored (remove s.objects.values n) s.sizes.values c.unlist_gone.new.located t) (sym c.vacate.ensures.store)
    (kept_without s.objects.values s.sizes.values s.located c.unlist_gone.new.located s.store n c.remove-removed.result c.remove-removed.ensures.value c.unlist_gone.ensures c.self.invariant))

pub returns-clause-before : goal.returns-clause-before
returns-clause-before c =
    let s = c.self.inside in
    let n = c.args.number in
    subst (λ (v : Storage). IsKnown n c.remove-removed.result v.objects) c.self.view_is (known_stored s.objects.values s.store n c.remove-removed.result c.self.invariant.each c.remove-removed.ensures.value)

pub returns-clause-collection : goal.returns-clause-collection
returns-clause-collection c = λ set.
    let s = c.self.inside in
    let n = c.args.number in
    ap (λ (v : Storage). is_member set n v.objects) (sym c.self.view_is) ∙ member_stored s.objects.values s.store n set c.remove-removed.result c.remove-removed.ensures.value

pub returns-clause-gone : goal.returns-clause-gone
returns-clause-gone c =
    let s = c.self.inside in
    let n = c.args.number in
    ap (λ (m : Objects). seen m c.vacate.new.self) c.remove-removed.ensures.values
    ∙ (seen_without s.objects.values s.store c.vacate.new.self n (ap (λ (t : Store). t.objects) c.vacate.ensures.store)
    ∙ ap (λ (v : Storage). keep (λ o. not (nat_eq o.number n)) v.objects) c.self.view_is)

pub returns-clause-pools : goal.returns-clause-pools
returns-clause-pools c =
    let s = c.self.inside in
    let n = c.args.number in
    let v = view_of s.objects.values s.sizes.values s.store in
    let w = view_of c.remove-removed.new.self.values s.sizes.values c.vacate.new.self in
    let gone : w.objects ≡ keep (λ o. not (nat_eq o.number n)) v.objects = ap (λ (m : Objects). seen m c.vacate.new.self) c.remove-removed.ensures.values
    ∙ seen_without s.objects.values s.store c.vacate.new.self n (ap (λ (t : Store). t.objects) c.vacate.ensures.store) in
    subst (λ (u : Storage). KeepsPools u w) c.self.view_is
    (left_pools v w n (rise_seen s.objects.values s.store) gone refl
    (ap (λ (t : Store). t.given) c.vacate.ensures.store)
    (λ k. subst (λ (t : Store). IsVacated n (get s.store.blocks k) (get t.blocks k)) (sym c.vacate.ensures.store) (vacated s.objects.values s.store n c.self.invariant.each c.self.invariant.held k)))

pub returns-clause-same : goal.returns-clause-same
returns-clause-same c =
    let s = c.self.inside in
    same_but_blocks c.args.self.now (view_of c.remove-removed.new.self.values s.sizes.values c.vacate.new.self)
    (ap (λ (v : Storage). v.sizes) c.self.view_is)
    (ap (λ (t : Store). t.given) c.vacate.ensures.store ∙ ap (λ (v : Storage). v.given) c.self.view_is)
