use Rattle.std.proofs.Common.{◌≡◌}
use Rattle.pool_store.proofs.CopyLemmas.{after_copy}
use Rattle.pool_store.proofs.store.PoolStore.copy_between.Given as goal

abbrev pub invariant-loop-k : goal.invariant-loop-k
invariant-loop-k g l = l.self ≡ after_copy l.from l.word l.to l.target l.k l.fn.self
