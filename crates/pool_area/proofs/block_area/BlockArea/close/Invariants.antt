use Rattle.std.proofs.Common.{ℕ}
use Rattle.pool_area.specs.Blocks.{Keeps}
use Rattle.pool_area.proofs.block_area.BlockArea.close.Given as goal

abbrev pub invariant-loop-lot : goal.invariant-loop-lot
invariant-loop-lot g l = Keeps l.pool 0 l.lots.values l.lots.size

abbrev pub decreases-loop-lot : goal.decreases-loop-lot
decreases-loop-lot g l = l.lots.size
