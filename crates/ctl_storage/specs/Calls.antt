-- What the calls of pools ask for, and what they answer and do: as the meaning's library does (13.11).
use Rattle.std.specs.Prelude.{◌≡◌, ℕ, ◌≤◌, List, Option, Some, None, Bool, true, false, ◌&&◌, ◌||◌, not, nat_eq, nat_lt, IfSome, IsSome, if◌then◌else◌}
use Rattle.std.specs.Option.{option_map_or}
use Rattle.std.specs.FinMap.{get}
use Rattle.ctl_meaning.specs.World as W
use Rattle.ctl_meaning.specs.World.{Object, empty_world}
use Rattle.ctl_program.specs.Limits.{least_block_size, greatest_block_size, least_block_count, greatest_block_count}
use Rattle.ctl_meaning.specs.Objects.{lies_in_pool, object_in}
use Rattle.ctl_meaning.specs.Pools.{block_at, block_pool_at, give_block, take_block}
use Rattle.ctl_meaning.specs.Changes.{is_vacant}
use Rattle.pool_store.specs.Entries.{BlockPool}
use Rattle.ctl_storage.specs.declared.pools.BlockReturn.{BlockReturn}
use Rattle.ctl_storage.specs.declared.pools.BlockReturn.TheVariants as ReturnOf
use Rattle.ctl_storage.specs.declared.pools.Placing.{Placing}
use Rattle.ctl_storage.specs.declared.pools.Placing.TheVariants as PlacingOf
use Rattle.ctl_storage.specs.declared.pools.Pool.{Pool}
use Rattle.ctl_storage.specs.declared.pools.PoolState.{PoolState}
use Rattle.ctl_storage.specs.declared.pools.PoolState.TheVariants.{Open, Closed}
use Rattle.ctl_storage.specs.Storage.{Storage, size_of}

-- Conditions -----------------------------------------------------------------

-- the sizes that a block pool may have (profile)
abbrev pub IsBlockPoolSize : ℕ → ℕ → Type 0
IsBlockPoolSize size count = (least_block_size ≤ size) × (size ≤ greatest_block_size) × (least_block_count ≤ count) × (count ≤ greatest_block_count)

-- a pool is open
abbrev pub IsOpen : ℕ → Storage → Type 0
IsOpen n s = IsSome (get s.blocks n)

-- no object lies in a block of this pool
abbrev pub AreOutside : ℕ → List Object → Type 0
AreOutside n os = (k : ℕ) → IfSome (object_in k os) (λ o. lies_in_pool n o.origin ≡ false)

-- the object of a number exists and lies in a block of this pool
abbrev pub number_lies_in : ℕ → ℕ → List Object → Bool
number_lies_in n k os = option_map_or (λ o. lies_in_pool n o.origin) (object_in k os) false

-- What is known of a pool ------------------------------------------------------

abbrev pub state_of : Bool → PoolState
state_of true = Open
state_of false = Closed

abbrev pub pool_of : W.BlockPool → Pool
pool_of p = record { size = size_of p; state = state_of p.is_open }

abbrev pub IsInState : PoolState → Option BlockPool → Type 0
IsInState Open b = IsSome b
IsInState Closed b = b ≡ None

-- what is known of the pool of a number, where there is one
abbrev pub IsPoolOf : ℕ → Option Pool → Storage → Type 0
IsPoolOf n None s = get s.sizes n ≡ None
IsPoolOf n (Some k) s = (get s.sizes n ≡ Some k.size) × IsInState k.state (get s.blocks n)

-- Blocks ---------------------------------------------------------------------------

-- among these objects, a block that is out and holds none of them
abbrev pub is_vacant_among : List Object → Option W.Block → Bool
is_vacant_among os b = is_vacant (record empty_world { objects = os }) b

-- no block of the pool is free, or none is as large as this
abbrev pub is_exhausted_at : ℕ → ℕ → W.Pools → Bool
is_exhausted_at n size x = option_map_or (λ p. nat_eq p.free 0 || nat_lt p.block_size size) (block_pool_at n x) false

-- the address of the block that goes out
abbrev pub taken_at : ℕ → ℕ → W.Pools → Option ℕ
taken_at n size x = if is_exhausted_at n size x then None else Some x.next_address

-- the pools, once it is out
abbrev pub with_taken : ℕ → ℕ → W.Pools → W.Pools
with_taken n size x = if is_exhausted_at n size x then x else take_block n x

-- a block of the pool is out under this address, and holds no object
abbrev pub is_vacant_at : ℕ → ℕ → List Object → W.Pools → Bool
is_vacant_at n a os x = option_map_or (λ p. is_vacant_among os (block_at a p)) (block_pool_at n x) false

abbrev pub returned : Bool → BlockReturn
returned true = ReturnOf.Accepted
returned false = ReturnOf.Refused

-- the pools, once it has come back
abbrev pub with_returned : ℕ → ℕ → List Object → W.Pools → W.Pools
with_returned n a os x = if is_vacant_at n a os x then give_block n a x else x

-- and it is not smaller than this
abbrev pub is_fit_at : ℕ → ℕ → ℕ → List Object → W.Pools → Bool
is_fit_at n a size os x = option_map_or (λ p. is_vacant_among os (block_at a p) && not (nat_lt p.block_size size)) (block_pool_at n x) false

abbrev pub placing : Bool → Placing
placing true = PlacingOf.Placed
placing false = PlacingOf.Refused

abbrev pub OnPlaced : Placing → Type 0 → Type 0
OnPlaced PlacingOf.Placed P = P
OnPlaced PlacingOf.Refused P = Unit {0}

abbrev pub OnRefused : Placing → Type 0 → Type 0
OnRefused PlacingOf.Placed P = Unit {0}
OnRefused PlacingOf.Refused P = P
