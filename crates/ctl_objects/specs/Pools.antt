-- How all objects, with the pools beside them, show the pools of the meaning (13.11).
use Rattle.std.specs.Prelude.{◌≡◌, ℕ, List, Bool, true, false, Some, None, IfSome, if◌then◌else◌}
use Rattle.ctl_meaning.specs.World as W
use Rattle.ctl_meaning.specs.World.{Object}
use Rattle.ctl_meaning.specs.Objects.{object_in}
use Rattle.ctl_meaning.specs.Pools.{block_pool_at, keep_pools}
use Rattle.ctl_storage.specs.Storage.{AreHolders, ArePools, Storage, exists}
use Rattle.ctl_objects.specs.Order.{IsAllocated, IsDeclared}
use Rattle.ctl_objects.specs.Stock.{Stock, storage_of}

-- no declared object has this number
abbrev pub IsUndeclared : ℕ → List Object → Type 0
IsUndeclared n os = IfSome (object_in n os) (λ o. IsAllocated o.origin)

-- no allocated object has it
abbrev pub IsUnallocated : ℕ → List Object → Type 0
IsUnallocated n os = IfSome (object_in n os) (λ o. IsDeclared o.origin)

-- a declared object has it
abbrev pub IsOwner : ℕ → List Object → Type 0
IsOwner n os = (o : Object) × (object_in n os ≡ Some o) × IsDeclared o.origin

-- these pools are kept beside the objects, where the next object gets this number
pub record HoldsPools (next : ℕ) (y : W.Pools) (s : Stock) : Type 0 where
  pub shown : ArePools next y (storage_of s)
  -- no declared object lies in a block, nor had its number one that lay there
  pub holders : AreHolders (λ n. IsUndeclared n s.objects) y
  -- no pool is an allocated object
  pub owners : (n : ℕ) → IfSome (block_pool_at n y) (λ p. IsUnallocated n s.objects)

-- of the second pools, those whose objects exist
pub record AreExisting (os : List Object) (x y : W.Pools) : Type 0 where
  pub address : x.next_address ≡ y.next_address
  pub pools : (n : ℕ) → block_pool_at n x ≡ (if exists n os then block_pool_at n y else None)

-- the objects show the meaning's block pools, where the next object gets this number: they are those that are kept and whose objects exist
pub record ShowsPools (next : ℕ) (x : W.Pools) (s : Stock) : Type 0 where
  pub kept : W.Pools
  pub existing : AreExisting s.objects x kept
  pub held : HoldsPools next kept s

-- all pools are shown as they were
abbrev pub KeepsShown : Stock → Stock → Type 0
KeepsShown s t = (next : ℕ) (x : W.Pools) → ShowsPools next x s → ShowsPools next x t

-- a storage shows these pools but for some of these numbers, which were dropped
abbrev pub DropsOnly : (ℕ → Bool) → ℕ → W.Pools → Storage → Type 0
DropsOnly goes next x t = (stays : ℕ → Bool) × ((n : ℕ) → goes n ≡ false → stays n ≡ true) × ArePools next (keep_pools stays x) t
