use Rattle.std.proofs.Common.{subst, sym}
use Rattle.ctl_storage.specs.Storage.{ArePools}
use Rattle.ctl_objects.specs.Stock.{Stock, storage_of}
use Rattle.ctl_objects.proofs.Both.{on_ok}
use Rattle.ctl_objects.proofs.allocations.Allocations.open_pool.Goals as goal

pub returns-clause-pools : goal.returns-clause-pools
returns-clause-pools c = on_ok c.open_pool.result _ _ c.open_pool.ensures.pools (λ f next x less h. f next x less (subst (λ (v : Stock). ArePools next x (storage_of v)) (sym c.self.view_is) h))
