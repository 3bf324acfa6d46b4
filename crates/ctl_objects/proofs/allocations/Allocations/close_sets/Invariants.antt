use Rattle.std.specs.Prelude.{◌≡◌, drop, not}
use Rattle.ctl_meaning.specs.Lists.{keep}
use Rattle.ctl_objects.specs.Sets.{is_of_sets}
use Rattle.ctl_storage.specs.Storage.{KeepsPools}
use Rattle.ctl_objects.specs.Stock.{storage_of}
use Rattle.ctl_objects.proofs.allocations.Allocations.close_sets.Given as goal

-- the objects of the collections that are left are still to go
abbrev pub invariant-loop-set : goal.invariant-loop-set
invariant-loop-set l = record {
  objects : keep (λ o. not (is_of_sets (drop l.set-index l.sets) o.origin)) l.self.objects ≡ keep (λ o. not (is_of_sets l.sets o.origin)) l.fn.self.objects;
  needs : l.self.needs ≡ l.fn.self.needs;
  pools : KeepsPools (storage_of l.fn.self) (storage_of l.self);
}
