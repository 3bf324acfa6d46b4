use Rattle.std.proofs.Common.{◌≡◌, ◌∙◌, cond, ap, refl, subst, sym, true, false}
use Rattle.pool_store.specs.Store.{Store, give_block, is_vacant_in}
use Rattle.ctl_meaning.specs.Pools as P
use Rattle.ctl_storage.specs.Calls.{is_vacant_at, returned}
use Rattle.ctl_storage.specs.Inside.{AreStored, view_of}
use Rattle.ctl_storage.specs.Storage.{ArePools, Storage}
use Rattle.ctl_storage.proofs.Calls.{accepted_is, refused_is, vacant_of}
use Rattle.ctl_storage.proofs.InStore.{seen_same}
use Rattle.ctl_storage.proofs.Kept.{kept_back}
use Rattle.ctl_storage.proofs.Shown.{given_back, vacant_at}
use Rattle.ctl_storage.proofs.storage.ObjectStorage.give_block.Goals as goal

pub invariant_of-self-2 : goal.invariant_of-self-2
invariant_of-self-2 c =
    let s = c.self.inside in
    let vacant = accepted_is (is_vacant_in c.args.pool c.args.address s.store) c.in-Ok.ensures.result in
    let store : c.deallocate.new.self ≡ give_block c.args.pool c.args.address s.store = c.in-Ok.ensures.store ∙ ap (λ b. cond b (give_block c.args.pool c.args.address s.store) s.store) vacant in
    subst (λ (t : Store). AreStored s.objects.values s.sizes.values s.located t) (sym store) (kept_back s.objects.values s.sizes.values s.located s.store c.args.pool c.args.address vacant c.self.invariant)

pub returns-clause-answer : goal.returns-clause-answer
returns-clause-answer c = λ next x h.
    let s = c.self.inside in
    let vacant = accepted_is (is_vacant_in c.args.pool c.args.address s.store) c.in-Ok.ensures.result in
    ap returned (sym (sym (vacant_at next c.args.pool c.args.address x c.args.self.now c.requires h) ∙ (ap (vacant_of c.args.pool c.args.address) (sym c.self.view_is) ∙ vacant)))

pub returns-clause-objects : goal.returns-clause-objects
returns-clause-objects c =
    let s = c.self.inside in
    let vacant = accepted_is (is_vacant_in c.args.pool c.args.address s.store) c.in-Ok.ensures.result in
    let store : c.deallocate.new.self ≡ give_block c.args.pool c.args.address s.store = c.in-Ok.ensures.store ∙ ap (λ b. cond b (give_block c.args.pool c.args.address s.store) s.store) vacant in
    seen_same s.objects.values s.store c.deallocate.new.self (ap (λ (t : Store). t.objects) store) ∙ ap (λ (v : Storage). v.objects) c.self.view_is

pub returns-clause-pools : goal.returns-clause-pools
returns-clause-pools c = λ next x h.
    let s = c.self.inside in
    let vacant = accepted_is (is_vacant_in c.args.pool c.args.address s.store) c.in-Ok.ensures.result in
    let store : c.deallocate.new.self ≡ give_block c.args.pool c.args.address s.store = c.in-Ok.ensures.store ∙ ap (λ b. cond b (give_block c.args.pool c.args.address s.store) s.store) vacant in
    let is : is_vacant_at c.args.pool c.args.address c.args.self.now.objects x ≡ true = sym (vacant_at next c.args.pool c.args.address x c.args.self.now c.requires h) ∙ (ap (vacant_of c.args.pool c.args.address) (sym c.self.view_is) ∙ vacant) in
    let t = view_of s.objects.values s.sizes.values c.deallocate.new.self in
    subst (λ b. ArePools next (cond b (P.give_block c.args.pool c.args.address x) x) t) (sym is)
    (given_back next c.args.pool c.args.address x (view_of s.objects.values s.sizes.values s.store) t (seen_same s.objects.values s.store c.deallocate.new.self (ap (λ (t : Store). t.objects) store)) refl
    (ap (λ (t : Store). t.blocks) store) (ap (λ (t : Store). t.given) store)
    (subst (λ (u : Storage). ArePools next x u) (sym c.self.view_is) h))

pub invariant_of-self : goal.invariant_of-self
invariant_of-self c =
    let s = c.self.inside in
    let held = refused_is (is_vacant_in c.args.pool c.args.address s.store) _ c.in_default.ensures.result in
    let store : c.deallocate.new.self ≡ s.store = c.in_default.ensures.store ∙ ap (λ b. cond b (give_block c.args.pool c.args.address s.store) s.store) held in
    subst (λ (t : Store). AreStored s.objects.values s.sizes.values s.located t) (sym store) c.self.invariant

pub returns-in_default-clause-answer : goal.returns-in_default-clause-answer
returns-in_default-clause-answer c = λ next x h.
    let s = c.self.inside in
    let held = refused_is (is_vacant_in c.args.pool c.args.address s.store) _ c.in_default.ensures.result in
    ap returned (sym (sym (vacant_at next c.args.pool c.args.address x c.args.self.now c.requires h) ∙ (ap (vacant_of c.args.pool c.args.address) (sym c.self.view_is) ∙ held)))

pub returns-in_default-clause-objects : goal.returns-in_default-clause-objects
returns-in_default-clause-objects c =
    let s = c.self.inside in
    let held = refused_is (is_vacant_in c.args.pool c.args.address s.store) _ c.in_default.ensures.result in
    let store : c.deallocate.new.self ≡ s.store = c.in_default.ensures.store ∙ ap (λ b. cond b (give_block c.args.pool c.args.address s.store) s.store) held in
    seen_same s.objects.values s.store c.deallocate.new.self (ap (λ (t : Store). t.objects) store) ∙ ap (λ (v : Storage). v.objects) c.self.view_is

pub returns-in_default-clause-pools : goal.returns-in_default-clause-pools
returns-in_default-clause-pools c = λ next x h.
    let s = c.self.inside in
    let held = refused_is (is_vacant_in c.args.pool c.args.address s.store) _ c.in_default.ensures.result in
    let store : c.deallocate.new.self ≡ s.store = c.in_default.ensures.store ∙ ap (λ b. cond b (give_block c.args.pool c.args.address s.store) s.store) held in
    let is : is_vacant_at c.args.pool c.args.address c.args.self.now.objects x ≡ false = sym (vacant_at next c.args.pool c.args.address x c.args.self.now c.requires h) ∙ (ap (vacant_of c.args.pool c.args.address) (sym c.self.view_is) ∙ held) in
    let t = view_of s.objects.values s.sizes.values c.deallocate.new.self in
    subst (λ b. ArePools next (cond b (P.give_block c.args.pool c.args.address x) x) t) (sym is)
    (subst (λ (u : Storage). ArePools next x u) (sym (ap (view_of s.objects.values s.sizes.values) store ∙ c.self.view_is)) h)
