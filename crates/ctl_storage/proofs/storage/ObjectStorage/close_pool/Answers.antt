use Rattle.ctl_storage.proofs.storage.ObjectStorage.close_pool.Goals as goal

pub returns-clause-pools : goal.returns-clause-pools
returns-clause-pools c = λ next x h. c.shut_pool.ensures.pools next x (c.empty_pool.ensures.pools next x h)
