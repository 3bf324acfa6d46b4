-- What is allocated, as contracts see it: the objects and the block pools, and how they show the pools of the meaning (13.11).
use Rattle.std.specs.Prelude.{◌≡◌, ℕ, ◌+◌, ◌<◌, List, Option, Some, None, Bool, true, false, IfSome, is_some, option_and_then, if◌then◌else◌}
use Rattle.std.specs.Option.{option_map}
use Rattle.std.specs.Ordering.{nat_cmp}
use Rattle.std.specs.FinMap.{FinMap, get}
use Rattle.ctl_meaning.specs.World as W
use Rattle.ctl_meaning.specs.World.{Object}
use Rattle.ctl_meaning.specs.Objects.{object_in}
use Rattle.ctl_meaning.specs.Pools.{block_at, block_pool_at}
use Rattle.pool_store.specs.Entries.{BlockPool}
use Rattle.ctl_storage.specs.declared.pools.PoolSize.{PoolSize}

-- the allocated objects, in the order of their numbers; the discriminants of each pool, by the number of the pool's object; the blocks of each open one; and the address that was given last
pub record Storage : Type 0 where
  pub objects : List Object
  pub sizes : FinMap nat_cmp PoolSize
  pub blocks : FinMap nat_cmp BlockPool
  pub given : ℕ

-- an object of this number exists
abbrev pub exists : ℕ → List Object → Bool
exists n os = is_some (object_in n os)

-- a number, where an object of it exists
abbrev pub among : List Object → Option ℕ → Option ℕ
among os None = None
among os (Some n) = if exists n os then Some n else None

-- the object that a block of the meaning holds, where that still exists
abbrev pub held_in : List Object → W.Block → Option ℕ
held_in os b = among os b.holder

-- a pool of the meaning, as it is kept while it is open: its blocks are as large, as many are free, and under each address the same is out, with the same object in it
pub record IsPool (os : List Object) (p : W.BlockPool) (b : BlockPool) : Type 0 where
  pub size : b.size ≡ p.block_size
  pub free : b.free ≡ p.free
  pub out : (a : ℕ) → get b.out a ≡ option_map (held_in os) (block_at a p)

-- the blocks of a pool are kept exactly while it is open
abbrev pub IsShown : List Object → Option W.BlockPool → Option BlockPool → Type 0
IsShown os None None = Unit {0}
IsShown os None (Some b) = ⊥
IsShown os (Some p) None = p.is_open ≡ false
IsShown os (Some p) (Some b) = (p.is_open ≡ true) × IsPool os p b

abbrev pub size_of : W.BlockPool → PoolSize
size_of p = record { block_size = p.block_size; block_count = p.block_count }

-- the object that was put into a block, whether it exists or not
abbrev pub holder_of : W.Block → Option ℕ
holder_of b = b.holder

abbrev pub holder_in : ℕ → Option W.BlockPool → Option ℕ
holder_in a p = option_and_then holder_of (option_and_then (block_at a) p)

abbrev pub holder_at : ℕ → ℕ → W.Pools → Option ℕ
holder_at n a x = holder_in a (block_pool_at n x)

-- each number that is noted in a block
abbrev pub AreHolders : (ℕ → Type 0) → W.Pools → Type 0
AreHolders P x = (n a : ℕ) → IfSome (holder_at n a x) P

-- a storage shows the meaning's block pools, where the next object gets this number
pub record ArePools (next : ℕ) (x : W.Pools) (s : Storage) : Type 0 where
  -- the next address is the one behind the last
  pub address : x.next_address ≡ s.given + 1
  -- each pool has its discriminants
  pub sizes : (n : ℕ) → get s.sizes n ≡ option_map size_of (block_pool_at n x)
  -- and its blocks, while it is open
  pub blocks : (n : ℕ) → IsShown s.objects (block_pool_at n x) (get s.blocks n)
  -- the number of a pool was given, and so was each that is noted in a block
  pub pools : (n : ℕ) → IfSome (block_pool_at n x) (λ p. n < next)
  pub holders : AreHolders (λ n. n < next) x

-- all pools are shown as they were
abbrev pub KeepsPools : Storage → Storage → Type 0
KeepsPools s t = (next : ℕ) (x : W.Pools) → ArePools next x s → ArePools next x t
