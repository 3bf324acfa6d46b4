use Rattle.ctl_storage.proofs.storage.ObjectStorage.drop_pool.Goals as goal

pub returns-clause-pools : goal.returns-clause-pools
returns-clause-pools c = λ next x h. c.forget_size.ensures.pools next x (c.shut_pool.ensures.pools next x h)
