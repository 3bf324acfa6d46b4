use Rattle.ctl_places.proofs.BlocksInto.{left_into, over_into}
use Rattle.ctl_places.proofs.pool_blocks.take_block_into.Given as goal

abbrev pub ghost-pool_below : goal.ghost-pool_below
ghost-pool_below g a = g.s

abbrev pub ghost-store_address : goal.ghost-store_address
ghost-store_address g a = (over_into g.s, left_into g.s)
