use Rattle.pool_store.proofs.mark_store.MarkStore.close.Given as goal

abbrev pub decreases-loop-area : goal.decreases-loop-area
decreases-loop-area g l = l.pools.size
