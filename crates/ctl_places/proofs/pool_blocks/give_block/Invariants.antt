use Rattle.std.proofs.Common.{drop}
use Rattle.ctl_places.proofs.pool_blocks.give_block.Given as goal

abbrev pub ghost-pool_and_value : goal.ghost-pool_and_value
ghost-pool_and_value g a = (g.s, drop 1 g.s.operands)
