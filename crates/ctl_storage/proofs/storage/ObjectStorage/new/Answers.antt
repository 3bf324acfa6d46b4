use Rattle.std.proofs.Common.{ap}
use Rattle.pool_store.specs.Store.{Store}
use Rattle.ctl_storage.specs.Inside.{view_of}
use Rattle.ctl_storage.proofs.InStore.{none_seen}
use Rattle.ctl_storage.proofs.Kept.{nothing_kept}
use Rattle.ctl_storage.proofs.Shown.{none_shown}
use Rattle.ctl_storage.proofs.storage.ObjectStorage.new.Goals as goal

pub invariant_of-result : goal.invariant_of-result
invariant_of-result c = nothing_kept c.new.result.values c.new-2.result.values c.new-3.result c.new-4.result c.new.ensures.values c.new-3.ensures.none c.new-4.ensures

pub returns-clause-objects : goal.returns-clause-objects
returns-clause-objects c = none_seen c.new.result.values c.new-4.result c.new.ensures.values

pub returns-clause-pools : goal.returns-clause-pools
returns-clause-pools c =
    none_shown (view_of c.new.result.values c.new-2.result.values c.new-4.result) c.new-2.ensures.values (ap (λ (s : Store). s.blocks) c.new-4.ensures) (ap (λ (s : Store). s.given) c.new-4.ensures)
