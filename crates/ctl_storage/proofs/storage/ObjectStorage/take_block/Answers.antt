use Rattle.std.proofs.Common.{◌≡◌, ◌∙◌, ◌+◌, ◌-◌, ◌<◌, ◌^◌, Option, Some, None, cond, ap, refl, subst, sym, true, false, ℕ}
use Rattle.std.specs.Prelude.{IsSome}
use Rattle.std.specs.FinMap.{get}
use Rattle.pool_store.specs.Store.{Store, is_exhausted_in}
use Rattle.ctl_meaning.specs.Pools as P
use Rattle.ctl_storage.specs.Calls.{is_exhausted_at}
use Rattle.ctl_storage.specs.Inside.{AreStored, view_of}
use Rattle.ctl_storage.specs.Storage.{ArePools, Storage}
use Rattle.ctl_storage.proofs.Calls.{exhausted_is, exhausted_of}
use Rattle.ctl_storage.proofs.InStore.{seen_same}
use Rattle.ctl_storage.proofs.Kept.{kept_taken}
use Rattle.ctl_storage.proofs.Shown.{exhausted_at, taken}
use Rattle.ctl_storage.proofs.storage.ObjectStorage.take_block.Goals as goal

pub allocate-requires-clause-open : goal.allocate-requires-clause-open
allocate-requires-clause-open c = subst (λ (v : Storage). IsSome (get v.blocks c.args.pool)) (sym c.self.view_is) c.requires.open

pub allocate-requires-clause-addresses : goal.allocate-requires-clause-addresses
allocate-requires-clause-addresses c = subst (λ (v : Storage). v.given < 2 ^ 64 - 1) (sym c.self.view_is) c.requires.addresses

pub invariant_of-self-2 : goal.invariant_of-self-2
invariant_of-self-2 c =
    let s = c.self.inside in
    subst (λ (t : Store). AreStored s.objects.values s.sizes.values s.located t) (sym c.in-Ok.ensures.ok.2) (kept_taken s.objects.values s.sizes.values s.located s.store c.args.pool c.self.invariant)

pub returns-clause-objects : goal.returns-clause-objects
returns-clause-objects c =
    let s = c.self.inside in
    seen_same s.objects.values s.store c.allocate.new.self (ap (λ (t : Store). t.objects) c.in-Ok.ensures.ok.2) ∙ ap (λ (v : Storage). v.objects) c.self.view_is

pub returns-clause-answer : goal.returns-clause-answer
returns-clause-answer c = λ next x h.
    let free : is_exhausted_at c.args.pool c.args.size x ≡ false = sym (exhausted_at next c.args.pool c.args.size x c.args.self.now c.requires.open h) ∙ (ap (λ (v : Storage). exhausted_of c.args.pool c.args.size v) (sym c.self.view_is) ∙ c.in-Ok.ensures.ok.0) in
    ap (λ n. let a : Option ℕ = Some n in a) (c.in-Ok.ensures.ok.1 ∙ (ap (λ (v : Storage). v.given + 1) c.self.view_is ∙ sym h.address))
    ∙ sym (ap (λ b. let a : Option ℕ = cond b None (Some x.next_address) in a) free)

pub returns-clause-pools : goal.returns-clause-pools
returns-clause-pools c = λ next x h.
    let s = c.self.inside in
    let v = view_of s.objects.values s.sizes.values s.store in
    let t = view_of s.objects.values s.sizes.values c.allocate.new.self in
    let free : is_exhausted_at c.args.pool c.args.size x ≡ false = sym (exhausted_at next c.args.pool c.args.size x c.args.self.now c.requires.open h) ∙ (ap (λ (v : Storage). exhausted_of c.args.pool c.args.size v) (sym c.self.view_is) ∙ c.in-Ok.ensures.ok.0) in
    subst (λ b. ArePools next (cond b x (P.take_block c.args.pool x)) t) (sym free)
    (taken next c.args.pool x v t (seen_same s.objects.values s.store c.allocate.new.self (ap (λ (t : Store). t.objects) c.in-Ok.ensures.ok.2)) refl
    (ap (λ (t : Store). t.blocks) c.in-Ok.ensures.ok.2) (ap (λ (t : Store). t.given) c.in-Ok.ensures.ok.2)
    (subst (λ (u : Storage). ArePools next x u) (sym c.self.view_is) h))

pub returns-in-Err-Exhausted-clause-answer : goal.returns-in-Err-Exhausted-clause-answer
returns-in-Err-Exhausted-clause-answer c = λ next x h.
    let s = c.self.inside in
    let full : is_exhausted_at c.args.pool c.args.size x ≡ true =
    sym (exhausted_at next c.args.pool c.args.size x c.args.self.now c.requires.open h) ∙ (ap (λ (v : Storage). exhausted_of c.args.pool c.args.size v) (sym c.self.view_is) ∙ exhausted_is (is_exhausted_in c.args.pool c.args.size s.store) (sym c.in-Err-Exhausted.field-0-is ∙ c.in-Err-Exhausted.ensures.fault)) in
    sym (ap (λ b. let a : Option ℕ = cond b None (Some x.next_address) in a) full)

pub returns-in-Err-Exhausted-clause-pools : goal.returns-in-Err-Exhausted-clause-pools
returns-in-Err-Exhausted-clause-pools c = λ next x h.
    let s = c.self.inside in
    let full : is_exhausted_at c.args.pool c.args.size x ≡ true =
    sym (exhausted_at next c.args.pool c.args.size x c.args.self.now c.requires.open h) ∙ (ap (λ (v : Storage). exhausted_of c.args.pool c.args.size v) (sym c.self.view_is) ∙ exhausted_is (is_exhausted_in c.args.pool c.args.size s.store) (sym c.in-Err-Exhausted.field-0-is ∙ c.in-Err-Exhausted.ensures.fault)) in
    let t = view_of s.objects.values s.sizes.values c.allocate.new.self in
    subst (λ b. ArePools next (cond b x (P.take_block c.args.pool x)) t) (sym full)
    (subst (λ (u : Storage). ArePools next x u) (sym (ap (view_of s.objects.values s.sizes.values) c.in-Err-Exhausted.ensures.err ∙ c.self.view_is)) h)
