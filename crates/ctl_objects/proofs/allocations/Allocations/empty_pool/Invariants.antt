use Rattle.std.specs.Prelude.{◌≡◌, length, not}
use Rattle.ctl_meaning.specs.Lists.{keep}
use Rattle.ctl_meaning.specs.Objects.{lies_in_pool}
use Rattle.ctl_storage.specs.Storage.{KeepsPools}
use Rattle.ctl_objects.specs.Stock.{storage_of}
use Rattle.ctl_objects.proofs.allocations.Allocations.empty_pool.Given as goal

-- what is left but for the pool, whose objects go one after another
abbrev pub invariant-loop-object : goal.invariant-loop-object
invariant-loop-object l = record {
  rest : keep (λ o. not (lies_in_pool l.number o.origin)) l.self.objects ≡ keep (λ o. not (lies_in_pool l.number o.origin)) l.fn.self.objects;
  needs : l.self.needs ≡ l.fn.self.needs;
  pools : KeepsPools (storage_of l.fn.self) (storage_of l.self);
}

abbrev pub decreases-loop-object : goal.decreases-loop-object
decreases-loop-object l = length l.self.objects
