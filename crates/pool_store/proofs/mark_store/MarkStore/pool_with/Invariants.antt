use Rattle.std.proofs.Common.{◌≡◌, drop}
use Rattle.pool_store.specs.Store.{pool_with, pool_among}
use Rattle.pool_store.proofs.mark_store.MarkStore.pool_with.Given as goal

abbrev pub invariant-loop-k : goal.invariant-loop-k
invariant-loop-k g l = pool_with l.subpool l.self ≡ pool_among l.subpool l.self.marks (drop l.k l.self.opened)
