use Rattle.std.proofs.Common.{◌≡◌, ◌∙◌, ap, arith, subst, sym}
use Rattle.std.specs.FinMap.{get, insert}
use Rattle.pool_store.specs.Store.{Store}
use Rattle.ctl_storage.specs.Inside.{AreStored, view_of}
use Rattle.ctl_storage.specs.Storage.{Storage}
use Rattle.ctl_storage.proofs.Calls.{opened_blocks}
use Rattle.ctl_storage.proofs.InStore.{seen_same}
use Rattle.ctl_storage.proofs.Kept.{Sizes, kept_opened, not_open}
use Rattle.ctl_storage.proofs.Shown.{opened}
use Rattle.ctl_storage.proofs.storage.ObjectStorage.open_pool.Goals as goal

pub open_block-requires-clause-size : goal.open_block-requires-clause-size
open_block-requires-clause-size c =
    let size = c.requires.size in
    (omega (arith, size.0), size.1, size.2, size.3)

pub open_block-requires-clause-new : goal.open_block-requires-clause-new
open_block-requires-clause-new c =
    let s = c.self.inside in
    not_open s.objects.values s.sizes.values s.located s.store c.args.number (ap (λ (v : Storage). get v.sizes c.args.number) c.self.view_is ∙ c.requires.new) c.self.invariant

pub invariant_of-self-in-Ok : goal.invariant_of-self-in-Ok
invariant_of-self-in-Ok c =
    let s = c.self.inside in
    let n = c.args.number in
    let z = c.args.size in
    let sizes : c.put.new.self.values ≡ insert s.sizes.values n z = c.put.ensures.values ∙ ap (λ (m : Sizes). insert m n z) c.reserve.ensures.values in
    subst (λ (m : Sizes). AreStored s.objects.values m s.located c.open_block.new.self) (sym sizes)
    (subst (λ (t : Store). AreStored s.objects.values (insert s.sizes.values n z) s.located t) (sym c.in-Ok.ensures.ok)
    (kept_opened s.objects.values s.sizes.values s.located s.store n z.block_size z.block_count z (ap (λ (v : Storage). get v.sizes n) c.self.view_is ∙ c.requires.new) c.self.invariant))

pub returns-in-Ok-clause-objects : goal.returns-in-Ok-clause-objects
returns-in-Ok-clause-objects c =
    let s = c.self.inside in
    seen_same s.objects.values s.store c.open_block.new.self (ap (λ (t : Store). t.objects) c.in-Ok.ensures.ok) ∙ ap (λ (v : Storage). v.objects) c.self.view_is

pub returns-in-Ok-clause-pools : goal.returns-in-Ok-clause-pools
returns-in-Ok-clause-pools c = λ next x less h.
    let s = c.self.inside in
    let n = c.args.number in
    let z = c.args.size in
    opened next n z x c.args.self.now (view_of s.objects.values c.put.new.self.values c.open_block.new.self) less (returns-in-Ok-clause-objects c)
    (c.put.ensures.values ∙ ap (λ (m : Sizes). insert m n z) (c.reserve.ensures.values ∙ ap (λ (v : Storage). v.sizes) c.self.view_is))
    (ap (λ (t : Store). t.blocks) c.in-Ok.ensures.ok ∙ ap (opened_blocks n z) c.self.view_is)
    (ap (λ (t : Store). t.given) c.in-Ok.ensures.ok ∙ ap (λ (v : Storage). v.given) c.self.view_is)
    h
