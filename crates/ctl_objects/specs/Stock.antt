-- What contracts see of all objects: the objects, what the record types need, and the pools.
use Rattle.std.specs.Prelude.{ℕ, List}
use Rattle.std.specs.Ordering.{nat_cmp}
use Rattle.std.specs.FinMap.{FinMap}
use Rattle.ctl_meaning.specs.World.{Object}
use Rattle.pool_store.specs.Entries.{BlockPool}
use Rattle.ctl_storage.specs.declared.pools.PoolSize.{PoolSize}
use Rattle.ctl_storage.specs.Storage.{Storage}
use Rattle.ctl_groups.specs.declared.needs.Need.{Need}
use Rattle.ctl_objects.specs.Order.{both}

pub record Stock : Type 0 where
  pub objects : List Object
  -- of each record type, by its number: whether it needs finalization (RM 7.6(9.2))
  pub needs : List Need
  -- the discriminants of each pool, by the number of the pool's object, the blocks of each open one, and the address that was given last (RM 13.11)
  pub sizes : FinMap nat_cmp PoolSize
  pub blocks : FinMap nat_cmp BlockPool
  pub given : ℕ

-- all of it but for the needs
abbrev pub storage_of : Stock → Storage
storage_of s = record { objects = s.objects; sizes = s.sizes; blocks = s.blocks; given = s.given }

-- a storage with what the record types need
abbrev pub stock_of : Storage → List Need → Stock
stock_of s needs = record { objects = s.objects; needs = needs; sizes = s.sizes; blocks = s.blocks; given = s.given }

-- allocated objects and the pools, and declared objects among them
abbrev pub all_of : Stock → List Object → Stock
all_of s ys = record s { objects = both s.objects ys }
