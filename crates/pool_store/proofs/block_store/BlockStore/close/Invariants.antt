use Rattle.pool_store.proofs.block_store.BlockStore.close.Given as goal

abbrev pub decreases-loop-area : goal.decreases-loop-area
decreases-loop-area g l = l.blocks.size
