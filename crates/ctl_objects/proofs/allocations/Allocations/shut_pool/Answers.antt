use Rattle.std.proofs.Common.{subst, sym}
use Rattle.ctl_storage.specs.Storage.{ArePools}
use Rattle.ctl_objects.specs.Stock.{Stock, storage_of}
use Rattle.ctl_objects.proofs.allocations.Allocations.shut_pool.Goals as goal

pub returns-clause-pools : goal.returns-clause-pools
returns-clause-pools c = λ next x h. c.shut_pool.ensures.pools next x (subst (λ (v : Stock). ArePools next x (storage_of v)) (sym c.self.view_is) h)
