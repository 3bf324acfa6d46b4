use Rattle.ctl_engine.specs.Shows.{maker_of}
use Rattle.ctl_allocations.proofs.PoolDeclared.{pool_newest}
use Rattle.ctl_allocations.proofs.pools.declare_pool.Given as goal

abbrev pub ghost-begin_declared : goal.ghost-begin_declared
ghost-begin_declared g a = (maker_of a.declared, pool_newest a.code.now a.engine.now a.place a.record g.s)
