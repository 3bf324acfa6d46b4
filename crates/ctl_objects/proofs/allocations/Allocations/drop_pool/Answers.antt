use Rattle.std.specs.Prelude.{nat_eq}
use Rattle.std.proofs.Common.{subst, sym}
use Rattle.ctl_storage.specs.Storage.{ArePools}
use Rattle.ctl_objects.specs.Stock.{Stock, storage_of}
use Rattle.ctl_objects.proofs.Dropped.{drops_none, drops_one}
use Rattle.ctl_objects.proofs.allocations.Allocations.drop_pool.Goals as goal

pub returns-in-None-clause-pools : goal.returns-in-None-clause-pools
returns-in-None-clause-pools c = λ next x h. drops_one c.args.number next x c.drop_pool.new.self (c.drop_pool.ensures.pools next x (subst (λ (v : Stock). ArePools next x (storage_of v)) (sym c.self.view_is) h))

pub returns-in_default-clause-pools : goal.returns-in_default-clause-pools
returns-in_default-clause-pools c = λ next x h. drops_none (λ n. nat_eq n c.args.number) next x (storage_of c.args.self.now) h
