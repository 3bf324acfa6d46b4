use Rattle.std.proofs.Common.{drop}
use Rattle.ctl_places.specs.PoolBlocks.{grant_in, world_of}
use Rattle.ctl_places.proofs.pool_blocks.take_block.Given as goal

abbrev pub ghost-pool_and_value : goal.ghost-pool_and_value
ghost-pool_and_value g a = (g.s, g.s.operands)

abbrev pub ghost-give : goal.ghost-give
ghost-give g a = record g.s { operands = drop 3 g.s.operands; world = world_of (grant_in g.s.operands g.s.world) g.s.world }
