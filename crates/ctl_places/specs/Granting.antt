-- Storage of allocators: what is granted where it is seen, and objects that are put there (13.11).
use Rattle.std.specs.Prelude.{◌≡◌, ℕ, ◌+◌, List, ◌∷◌, Bool, true, false, Option, Some, None, Result, Ok, Err, is_some, slice_get, slice_set, replicate, unwrap_or}
use Rattle.ctl_tree.specs.declared.ending.Stop.{Stop}
use Rattle.ctl_tree.specs.declared.ending.Stop.TheVariants.{BadAddress, UseAfterFree}
use Rattle.ctl_meaning.specs.World.{Object, Place, Standard, InBlock, World}
use Rattle.ctl_meaning.specs.Changes.{in_pools}
use Rattle.ctl_meaning.specs.Objects.{object_in}
use Rattle.ctl_meaning.specs.Pools.{block_pool_at, take_block}
use Rattle.ctl_program.specs.declared.types.Ty.{Ty}
use Rattle.ctl_code.specs.declared.kinds.Kind.{Kind}
use Rattle.ctl_code.specs.declared.kinds.Kind.TheVariants.{Operand}
use Rattle.ctl_code.specs.declared.code.Code.{Code}
use Rattle.ctl_code.specs.declared.code.Way.TheVariants as WayOf
use Rattle.ctl_code.specs.Fits.{Stands}
use Rattle.ctl_code.specs.States.{Scalar, State, Word, worth}
use Rattle.ctl_code.specs.Valid.{IsScalar, Leads}
use Rattle.ctl_code.specs.Table.{Grant, Granted, Exhausted, UnknownPool, AllocateOf, NotPassed, Passed, address_test, cells_for, grant, operation_for, pool_in, units_for, with_member}
use Rattle.ctl_storage.specs.Calls.{IsOpen, is_exhausted_at}
use Rattle.ctl_storage.specs.declared.pools.Placing.{Placing}
use Rattle.ctl_storage.specs.declared.pools.Placing.TheVariants as PlacingOf
use Rattle.ctl_objects.specs.Pools.{ShowsPools}
use Rattle.ctl_objects.specs.Stock.{storage_of}
use Rattle.ctl_engine.specs.declared.engine.Engine.{Engine}
use Rattle.ctl_places.specs.declared.pool_blocks.Grantor.{Grantor}
use Rattle.ctl_places.specs.declared.pool_blocks.Grantor.TheVariants as GrantorOf
use Rattle.ctl_frames.specs.declared.frame.Mode.{Mode}
use Rattle.ctl_frames.specs.declared.frame.Mode.TheVariants as ModeOf
use Rattle.ctl_engine.specs.Allocating.{OwnsNone}
use Rattle.ctl_places.specs.Gathering.{Member, with_new_member}
use Rattle.ctl_frames.specs.Masters.{first_display, heads_of}
use Rattle.ctl_engine.specs.Moves.{GoesOn}
use Rattle.ctl_engine.specs.Shows.{Holds, Kept, Sized, kept, stock_of}
use Rattle.ctl_frames.specs.Spots.{standing}

-- What is granted ------------------------------------------------------------------------------

-- for so many storage units, by the pool of an access type, where that is seen
abbrev pub storage_seen : Code → ℕ → State → ℕ → Grant
storage_seen code access s size = grant code (pool_in (slice_get code.accesses.items access)) (first_display (heads_of s.world.activations)) size s.world

-- by an open pool, whose object exists: a block, unless the pool is exhausted
abbrev pub block_unless : Bool → ℕ → World → Grant
block_unless true n w = Exhausted
block_unless false n w = Granted (InBlock n w.pools.next_address) (in_pools (take_block n) w)

abbrev pub pool_grants : ℕ → ℕ → World → Grant
pool_grants n size w = block_unless (is_exhausted_at n size w.pools) n w

-- the user wrote the Allocate for the type of a pool object, which exists: it is asked, whatever the size
pub record IsUsers (code : Code) (e : Engine) (n f : ℕ) (g : ℕ → Grant) : Type 0 where
  pub object : Object
  pub found : object_in n e.stock.objects ≡ Some object
  pub operation : operation_for (λ x. x.allocate) code object.ty ≡ Some f
  pub asks : (size : ℕ) → g size ≡ AllocateOf object f

-- so storage is granted in a world, whatever the size: in the standard pool; by an open pool, whose object exists; by an Allocate that the user
-- wrote; or the pool has ceased to exist
abbrev pub Grants : Code → Engine → World → (ℕ → Grant) → Grantor → Type 0
Grants code e w g GrantorOf.Standard = (size : ℕ) → g size ≡ Granted Standard w
Grants code e w g (GrantorOf.Library n) = IsOpen n (storage_of e.stock) × (is_some (object_in n e.stock.objects) ≡ true) × ((size : ℕ) → g size ≡ pool_grants n size w)
Grants code e w g (GrantorOf.User n f) = IsUsers code e n f g
Grants code e w g GrantorOf.Gone = (size : ℕ) → g size ≡ UnknownPool

-- no Allocate of the user's is asked
abbrev pub AsksNoUser : Grantor → Type 0
AsksNoUser (GrantorOf.User n f) = ⊥
AsksNoUser _ = Unit {0}

-- the place, and the world then
abbrev pub place_granted : Grant → Place
place_granted (Granted place v) = place
place_granted _ = Standard

abbrev pub world_granted : World → Grant → World
world_granted w (Granted place v) = v
world_granted w _ = w

-- Objects at their places ------------------------------------------------------------------------

-- an object was allocated at a place, where the world had granted this
pub record IsNewMember (code : Code) (old new : Kept) (set : ℕ) (of : Ty) (place : Place) (granted : World) : Type 0 where
  pub kept : new ≡ with_new_member set of place (replicate (cells_for code of) 0) (stock_of new) old
  pub pools : ShowsPools (old.next_object + 1) (with_member code set of place granted).pools (stock_of new)

-- storage was granted, and an object is there
pub record Adds (code : Code) (old new : Kept) (set : ℕ) (of : Ty) (w : World) (g : Grant) : Type 0 where
  pub granted : g ≡ Granted (place_granted g) (world_granted w g)
  pub member : IsNewMember code old new set of (place_granted g) (world_granted w g)

-- none was, and this comes next: Storage_Error (11.1), or the pool has ceased to exist (13.11.2); where the user wrote the Allocate, it is not
-- asked here
abbrev pub Lacks : Grant → Mode → Type 0
Lacks (Granted place v) mode = ⊥
Lacks Exhausted mode = mode ≡ ModeOf.Transfers (WayOf.Raise 2)
Lacks UnknownPool mode = mode ≡ ModeOf.Stopped UseAfterFree
Lacks (AllocateOf o f) mode = mode ≡ ModeOf.Stopped UseAfterFree

-- the one or the other, where what comes next is answered
abbrev pub Serves : Code → Engine → Engine → ℕ → Ty → World → Grant → Option Mode → Type 0
Serves code old new set of w g None = Adds code (kept old) (kept new) set of w g
Serves code old new set of w g (Some mode) = Lacks g mode × GoesOn old new old.mode old.cells.items

-- At an address ----------------------------------------------------------------------------------

-- an object is there, in a block of an open pool, or no block there may hold it, and nothing has changed
abbrev pub Places : Code → Engine → Engine → ℕ → Ty → ℕ → ℕ → World → Placing → Type 0
Places code old new set of n a w PlacingOf.Placed = (address_test a (units_for code of) (block_pool_at n w.pools) w ≡ Passed) × IsNewMember code (kept old) (kept new) set of (InBlock n a) w
Places code old new set of n a w PlacingOf.Refused = (address_test a (units_for code of) (block_pool_at n w.pools) w ≡ NotPassed BadAddress) × GoesOn old new old.mode old.cells.items

-- the number under so many newer operands
abbrev pub number_at : List Word → ℕ → ℕ
number_at ops i = worth (unwrap_or (slice_get ops i) (Scalar 0))

-- an object is at the address that an Allocate gave, for the collection whose number is answered; or that address does not pass its test
abbrev pub PlacesThere : Code → Engine → Engine → Ty → State → Result ℕ Mode → Type 0
PlacesThere code old new of s (Ok set) =
    let n = number_at s.operands 2 in
    let a = number_at s.operands 0 in
    (set ≡ number_at s.operands 3) × (address_test a (units_for code of) (block_pool_at n s.world.pools) s.world ≡ Passed) × IsNewMember code (kept old) (kept new) set of (InBlock n a) s.world
PlacesThere code old new of s (Err mode) =
    (stop : Stop) × (mode ≡ ModeOf.Stopped stop) × (address_test (number_at s.operands 0) (units_for code of) (block_pool_at (number_at s.operands 2) s.world.pools) s.world ≡ NotPassed stop) × GoesOn old new old.mode old.cells.items

-- New objects ------------------------------------------------------------------------------------

-- it was allocated for a collection, is the last one that was given a number, and is to begin; its allocator goes on there
pub record IsAdded (code : Code) (e : Engine) (set : ℕ) (of : Ty) (at : ℕ) (m : Member) : Type 0 where
  pub holds : Holds code (kept e) m.control m.point.operands (with_member code set of m.place m.granted)
  pub spots : e.spots.items ≡ standing m.control m.point.operands
  pub number : m.granted.ledger.next_object ≡ e.numbered.objects
  pub foreign : OwnsNone e.numbered.objects e.owned.items
  pub goes_on : m.point.place ≡ at
  pub seen : m.point.display ≡ first_display (heads_of (with_member code set of m.place m.granted).activations)
  pub stack : List Kind
  pub type : Ty
  pub scalar : IsScalar type
  pub leads : Leads code m.point.place (Operand type ∷ stack)
  pub stands : Stands code stack m.control m.point.operands
  pub sized : Sized code stack m.control (heads_of (with_member code set of m.place m.granted).activations)

-- the numbers of a collection and of a pool stand in two cells
abbrev pub with_numbers : ℕ → ℕ → ℕ → List ℕ → List ℕ
with_numbers cell set pool cells = slice_set (slice_set cells cell set) (cell + 1) pool
