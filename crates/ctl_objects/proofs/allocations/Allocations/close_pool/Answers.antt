use Rattle.ctl_objects.proofs.allocations.Allocations.close_pool.Goals as goal

pub returns-clause-pools : goal.returns-clause-pools
returns-clause-pools c = λ next x h. c.shut_pool.ensures.pools next x (c.empty_pool.ensures.pools next x h)
