use Rattle.std.proofs.Common.{◌≡◌, ◌∙◌, ap, cond, refl, subst, sym, None, false, ℕ}
use Rattle.std.specs.Prelude.{IsSome, is_some, nat_eq}
use Rattle.std.specs.FinMap.{get}
use borrow.Author.Tests.{eq-eqb}
use Rattle.number_map.proofs.Changes.{get_dropped}
use Rattle.pool_store.specs.Store.{Store}
use Rattle.ctl_storage.specs.Calls.{AreOutside}
use Rattle.ctl_storage.specs.Inside.{AreStored, lies_in, seen, view_of}
use Rattle.ctl_storage.specs.Storage.{Storage}
use Rattle.ctl_storage.proofs.Kept.{blocks_left, kept_closed, lies_seen, not_open_is, open_is, seen_left, seen_outside}
use Rattle.ctl_storage.proofs.Shown.{closed}
use Rattle.ctl_storage.proofs.storage.ObjectStorage.shut_pool.Goals as goal

pub returns-then-not-is_open-clause-closed : goal.returns-then-not-is_open-clause-closed
returns-then-not-is_open-clause-closed c =
    let s = c.self.inside in
    ap (λ (v : Storage). get v.blocks c.args.number) (sym c.self.view_is) ∙ not_open_is s.store c.args.number (sym c.is_open.ensures ∙ c.if-not-is_open.true)

pub returns-then-not-is_open-clause-pools : goal.returns-then-not-is_open-clause-pools
returns-then-not-is_open-clause-pools c = λ next x h.
    let n = c.args.number in
    let v = c.args.self.now in
    closed next n x v v refl refl (λ k. blocks_left v.blocks n (returns-then-not-is_open-clause-closed c) k) refl h

pub invariant_of-self : goal.invariant_of-self
invariant_of-self c =
    let s = c.self.inside in
    let n = c.args.number in
    let stands : IsSome (get c.args.self.now.blocks n) = ap (λ (v : Storage). is_some (get v.blocks n)) (sym c.self.view_is) ∙ (sym (open_is s.store n (c.self.invariant.marks n)) ∙ (sym c.is_open.ensures ∙ c.if-not-is_open.false)) in
    let outside = subst (λ (v : Storage). AreOutside n v.objects) (sym c.self.view_is) (c.requires stands) in
    let none : (k : ℕ) → lies_in n (get s.objects.values k) ≡ false = λ k. sym (lies_seen s.objects.values s.store n k) ∙ seen_outside (seen s.objects.values s.store) n k outside in
    subst (λ (t : Store). AreStored s.objects.values s.sizes.values s.located t) (sym c.close_pool.ensures) (kept_closed s.objects.values s.sizes.values s.located s.store n none c.self.invariant)

pub returns-clause-objects : goal.returns-clause-objects
returns-clause-objects c =
    let s = c.self.inside in
    let n = c.args.number in
    let stands : IsSome (get c.args.self.now.blocks n) = ap (λ (v : Storage). is_some (get v.blocks n)) (sym c.self.view_is) ∙ (sym (open_is s.store n (c.self.invariant.marks n)) ∙ (sym c.is_open.ensures ∙ c.if-not-is_open.false)) in
    let outside = subst (λ (v : Storage). AreOutside n v.objects) (sym c.self.view_is) (c.requires stands) in
    let none : (k : ℕ) → lies_in n (get s.objects.values k) ≡ false = λ k. sym (lies_seen s.objects.values s.store n k) ∙ seen_outside (seen s.objects.values s.store) n k outside in
    ap (λ (t : Store). seen s.objects.values t) c.close_pool.ensures ∙ (seen_left s.objects.values s.sizes.values s.located s.store n none c.self.invariant ∙ ap (λ (v : Storage). v.objects) c.self.view_is)

pub returns-clause-closed : goal.returns-clause-closed
returns-clause-closed c =
    let s = c.self.inside in
    let n = c.args.number in
    ap (λ (t : Store). get t.blocks n) c.close_pool.ensures ∙ (get_dropped s.store.blocks n n ∙ ap (λ b. cond b None (get s.store.blocks n)) (eq-eqb n n refl))

pub returns-clause-pools : goal.returns-clause-pools
returns-clause-pools c = λ next x h.
    let s = c.self.inside in
    let n = c.args.number in
    closed next n x c.args.self.now (view_of s.objects.values s.sizes.values c.close_pool.new.self) (returns-clause-objects c) (ap (λ (v : Storage). v.sizes) c.self.view_is)
    (λ k. ap (λ (t : Store). get t.blocks k) c.close_pool.ensures ∙ (get_dropped s.store.blocks n k ∙ ap (λ (v : Storage). cond (nat_eq k n) None (get v.blocks k)) c.self.view_is))
    (ap (λ (t : Store). t.given) c.close_pool.ensures ∙ ap (λ (v : Storage). v.given) c.self.view_is) h
