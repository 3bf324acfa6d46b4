use Rattle.std.proofs.Common.{vec_len}
use Rattle.pool_of_ones_own.specs.Shelves.{AreOut}
use Rattle.pool_of_ones_own.proofs.shelf.Shelf.close.Given as goal

abbrev pub invariant-loop-block : goal.invariant-loop-block
invariant-loop-block g l = AreOut l.pool l.blocks.items

abbrev pub decreases-loop-block : goal.decreases-loop-block
decreases-loop-block g l = vec_len l.blocks
