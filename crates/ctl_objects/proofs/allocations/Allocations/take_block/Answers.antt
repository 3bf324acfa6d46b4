use Rattle.std.proofs.Common.{subst, sym}
use Rattle.ctl_storage.specs.Storage.{ArePools}
use Rattle.ctl_objects.specs.Stock.{Stock, storage_of}
use Rattle.ctl_objects.proofs.Both.{if_ok, on_ok}
use Rattle.ctl_objects.proofs.allocations.Allocations.take_block.Goals as goal

pub returns-clause-answer : goal.returns-clause-answer
returns-clause-answer c = if_ok c.take_block.result _ _ c.take_block.ensures.answer (λ r f next x h. f next x (subst (λ (v : Stock). ArePools next x (storage_of v)) (sym c.self.view_is) h))

pub returns-clause-pools : goal.returns-clause-pools
returns-clause-pools c = on_ok c.take_block.result _ _ c.take_block.ensures.pools (λ f next x h. f next x (subst (λ (v : Stock). ArePools next x (storage_of v)) (sym c.self.view_is) h))
