use Rattle.std.specs.Prelude.{◌≡◌, ℕ}
use Rattle.ctl_meaning.specs.World as W
use Rattle.ctl_storage.specs.Storage.{ArePools}
use Rattle.ctl_objects.specs.Declarations.{has_number}
use Rattle.ctl_objects.specs.Pools.{DropsOnly}
use Rattle.ctl_objects.specs.Stock.{storage_of}
use Rattle.ctl_objects.proofs.allocations.Allocations.drop_pools.Given as goal

-- pools of these objects are dropped, and no others
abbrev pub invariant-loop-object : goal.invariant-loop-object
invariant-loop-object l = record {
  objects : l.self.objects ≡ l.fn.self.objects;
  needs : l.self.needs ≡ l.fn.self.needs;
  pools : (next : ℕ) (x : W.Pools) → ArePools next x (storage_of l.fn.self) → DropsOnly (λ n. has_number n l.going) next x (storage_of l.self);
}
