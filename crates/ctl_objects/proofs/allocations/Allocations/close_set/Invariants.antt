use Rattle.std.specs.Prelude.{◌≡◌, length, not}
use Rattle.ctl_meaning.specs.Lists.{keep}
use Rattle.ctl_meaning.specs.Objects.{is_of_set}
use Rattle.ctl_storage.specs.Storage.{KeepsPools}
use Rattle.ctl_objects.specs.Stock.{storage_of}
use Rattle.ctl_objects.proofs.allocations.Allocations.close_set.Given as goal

-- what is left but for the collection
abbrev pub invariant-loop-number : goal.invariant-loop-number
invariant-loop-number l = record {
  objects : keep (λ o. not (is_of_set l.set o.origin)) l.self.objects ≡ keep (λ o. not (is_of_set l.set o.origin)) l.fn.self.objects;
  needs : l.self.needs ≡ l.fn.self.needs;
  pools : KeepsPools (storage_of l.fn.self) (storage_of l.self);
}

abbrev pub decreases-loop-number : goal.decreases-loop-number
decreases-loop-number l = length l.self.objects
