-- How objects and pools are kept: the objects by their numbers, with their cells and the blocks in the object store.
use Rattle.std.specs.Prelude.{◌≡◌, ℕ, ◌+◌, List, [], ◌∷◌, Option, Some, None, Bool, false, ◌&&◌, nat_eq, length, map, option_and_then, IfSome, IsSome}
use Rattle.std.specs.Ordering.{nat_cmp}
use Rattle.std.specs.Option.{option_map_or}
use Rattle.std.specs.FinMap.{FinMap, entries, get}
use Rattle.number_map.specs.Table.{AreGiven}
use Rattle.pool_store.specs.declared.entry.Spot.{Spot}
use Rattle.pool_store.specs.Entries.{Stored}
use Rattle.pool_store.specs.Store.{Store, with_word, words_of}
use Rattle.ctl_meaning.specs.World.{Object}
use Rattle.ctl_storage.specs.declared.existing.Allocation.{Allocation}
use Rattle.ctl_storage.specs.declared.existing.Place.{Place}
use Rattle.ctl_storage.specs.declared.existing.Place.TheVariants.{Standard, InBlock}
use Rattle.ctl_storage.specs.declared.existing.Step.{Step}
use Rattle.ctl_storage.specs.declared.pools.PoolSize.{PoolSize}
use Rattle.ctl_storage.specs.Allocated.{allocated}
use Rattle.owned_numbers.specs.Owned.{Owned, owns}
use Rattle.ctl_storage.specs.Stages.{after}
use Rattle.ctl_storage.specs.Storage.{Storage}

-- the objects in the order of their numbers
unfoldable pub seen : FinMap nat_cmp Allocation → Store → List Object
seen objects store = map (λ e. allocated e.0 e.1 (words_of e.0 store)) (entries objects)

-- what contracts see
abbrev pub view_of : FinMap nat_cmp Allocation → FinMap nat_cmp PoolSize → Store → Storage
view_of objects sizes store = record { objects = seen objects store; sizes = sizes; blocks = store.blocks; given = store.given }

-- Where an object lies -----------------------------------------------------------

abbrev pub spot_of : Place → Option Spot
spot_of Standard = None
spot_of (InBlock s) = Some s

-- in a block of this pool
abbrev pub is_in : ℕ → Place → Bool
is_in p Standard = false
is_in p (InBlock s) = nat_eq s.pool p

-- in the block at this address
abbrev pub is_at : ℕ → ℕ → Place → Bool
is_at p a Standard = false
is_at p a (InBlock s) = nat_eq s.pool p && nat_eq s.address a

abbrev pub lies_in : ℕ → Option Allocation → Bool
lies_in p o = option_map_or (λ x. is_in p x.place) o false

abbrev pub lies_at : ℕ → ℕ → Option Allocation → Bool
lies_at p a o = option_map_or (λ x. is_at p a x.place) o false

-- what is out at an address of a pool
abbrev pub lot_at : ℕ → ℕ → Store → Option (Option ℕ)
lot_at p a s = option_and_then (λ b. get b.out a) (get s.blocks p)

-- a block that is out holds the object of this number
abbrev pub holds : ℕ → Option (Option ℕ) → Bool
holds n lot = option_map_or (λ h. option_map_or (λ m. nat_eq m n) h false) lot false

-- What is kept -----------------------------------------------------------------------

-- the cells of an object are its words, where it lies
pub record LiesAs (a : Allocation) (s : Stored) : Type 0 where
  pub cells : a.cells ≡ length s.words
  pub spot : s.spot ≡ spot_of a.place
  pub site : s.site ≡ None

-- the store has the objects, and no others
abbrev pub IsStored : Option Allocation → Option Stored → Type 0
IsStored None None = Unit {0}
IsStored None (Some s) = ⊥
IsStored (Some a) None = ⊥
IsStored (Some a) (Some s) = LiesAs a s

pub record AreStored (objects : FinMap nat_cmp Allocation) (sizes : FinMap nat_cmp PoolSize) (located : Owned) (store : Store) : Type 0 where
  pub each : (n : ℕ) → IsStored (get objects n) (get store.objects n)
  -- a block holds exactly the object that lies in it
  pub held : (n p a : ℕ) → holds n (lot_at p a store) ≡ lies_at p a (get objects n)
  -- the objects in the blocks of each pool are listed for it
  pub listed : (p n : ℕ) → owns p n located ≡ lies_in p (get objects n)
  -- an open pool has its discriminants, and no address above those given
  pub pools : (p : ℕ) → IfSome (get store.blocks p) (λ b. IsSome (get sizes p) × AreGiven store.given b.out)
  pub marks : (p : ℕ) → get store.marks p ≡ None

-- an object after a step
abbrev pub moved : Step → Allocation → Allocation
moved x a = record a { stage = after x a.stage }

-- these values are written over the cells of an object in the store, from one on
abbrev pub words_written : ℕ → ℕ → List ℕ → Store → Store
words_written n offset [] store = store
words_written n offset (x ∷ v) store = words_written n (offset + 1) v (with_word n offset x store)
