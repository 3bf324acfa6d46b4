-- Storage of block pools and mark pools, and the release of subpools (13.11, 13.11.4 to 13.11.6).
use Rattle.std.specs.Prelude.{ℕ, ◌+◌, List, [], ◌∷◌, Option, Some, None, Bool, true, false, not, ◌&&◌, ◌||◌, nat_eq, nat_lt, slice_get}
use Rattle.ctl_program.specs.declared.types.Root.{Root}
use Rattle.ctl_program.specs.declared.types.Root.TheVariants.{MarkPool}
use Rattle.ctl_program.specs.declared.types.Var.{Var}
use Rattle.ctl_tree.specs.declared.ending.Stop.TheVariants.{FreeWhileFinalizing, BadAddress, ReleasedSubpool}
use Rattle.ctl_tree.specs.declared.event.Cause.TheVariants.{Subpool}
use Rattle.ctl_tree.specs.declared.event.Event.TheVariants.{Allocate, Deallocate}
use Rattle.ctl_meaning.specs.World.{Place, Standard, InBlock, InSubpool, Slot, Binds, holding, unset, valued, BlockPool, Pools, World}
use Rattle.ctl_meaning.specs.World as W
use Rattle.ctl_program.specs.Limits.{integer_last, alignment}
use Rattle.ctl_meaning.specs.Lists.{item_or}
use Rattle.ctl_meaning.specs.Pools.{block_pool_at, take_block, give_block, block_at, mark_pool_at, subpool_at, last_mark, set_used, detach, belongs_now, keep_dead, drop_released, dropped_among}
use Rattle.ctl_meaning.specs.Objects.{lies_in_subpool, lies_in_pool}
use Rattle.ctl_meaning.specs.Changes.{in_pools, is_vacant, is_busy, empty_subpool, close_pool_at, count_of}
use Rattle.ctl_meaning.specs.Members.{OfSubpool}
use Rattle.ctl_meaning.specs.Outcome.{constraint_error, program_error, storage_error, Act, Done, ◌>>=◌, ◌>>◌, done, nothing, raise, stop, counted, look, change, show, either, on_some}
use Rattle.ctl_meaning.specs.Types.{Composite, operation_for, root_for}
use Rattle.ctl_meaning.specs.Names.{OfSubprogram, Returned, Tools, Found, gone, existing, scalar_of, read_found, write_found, find_var, object_of}
use Rattle.ctl_meaning.specs.Marks.{default_subpool}
use Rattle.ctl_meaning.specs.Finalization.{with_home, finalize_group}

-- Block pools (profile) ----------------------------------------------------------

-- a block pool that is open, or a stop
unfoldable pub with_block_pool : {A : Type 0} → ℕ → (BlockPool → Act A) → Act A
with_block_pool n f = look (λ w. on_some (block_pool_at n w.pools) gone (λ p. either p.is_open (f p) gone))

-- the library's Allocate: Storage_Error exactly where no block is free or the size exceeds a block's
unfoldable pub library_allocate : ℕ → ℕ → Act ℕ
library_allocate n size =
    with_block_pool n (λ p. either (nat_eq p.free 0 || nat_lt p.block_size size) (raise storage_error) (look (λ w. change (in_pools (take_block n)) >> done w.pools.next_address)))

-- the library's Deallocate takes back a block that is out and holds no object
unfoldable pub library_deallocate : ℕ → ℕ → Act Done
library_deallocate n a = with_block_pool n (λ p. look (λ w. either (is_vacant w (block_at a p)) (change (in_pools (give_block n a))) (stop BadAddress)))

-- an address that a user's Allocate gave to an allocator must name such a block, and a large enough one
unfoldable pub tested : ℕ → ℕ → ℕ → Act ℕ
tested n size a = with_block_pool n (λ p. look (λ w. either (is_vacant w (block_at a p) && not (nat_lt p.block_size size)) (done a) (stop BadAddress)))

-- the slots of Allocate and Deallocate: the pool, the address, the size and the alignment (13.11)
unfoldable pub storage_actuals : ℕ → ℕ → ℕ → List Slot
storage_actuals n a size = holding (Binds n 0 []) ∷ valued a ∷ valued size ∷ valued alignment ∷ []

unfoldable pub address_in : Returned → ℕ
address_in r = (item_or unset (slice_get r.slots 1)).value

-- a size above Storage_Count'Last raises Constraint_Error in place of the call (profile)
unfoldable pub user_allocate : Tools → ℕ → ℕ → ℕ → Act ℕ
user_allocate k n size f =
    either (nat_lt integer_last size) (raise constraint_error)
    (show (Allocate n size) >> with_home n (λ d. k.call (OfSubprogram f (storage_actuals n 0 size)) d) >>= (λ r. tested n size (address_in r)))

unfoldable pub block_storage : Tools → ℕ → ℕ → Act Place
block_storage k n size =
    existing n (λ o. on_some (operation_for (λ x. x.allocate) k.tables o.ty) (library_allocate n size) (user_allocate k n size))
    >>= (λ a. done (InBlock n a))

-- the storage of an object that is freed goes back by Deallocate of its pool (13.11.2)
unfoldable pub give_back : Tools → ℕ → ℕ → ℕ → Act Done
give_back k n a size =
    existing n (λ o. on_some (operation_for (λ x. x.deallocate) k.tables o.ty) (library_deallocate n a)
    (λ f. show (Deallocate n size) >> with_home n (λ d. k.call (OfSubprogram f (storage_actuals n a size)) d) >> nothing))

-- Mark pools (13.11.6, profile) -----------------------------------------------------

-- Storage_Error exactly where what is used and the size exceed the pool's size
unfoldable pub room_in : ℕ → ℕ → ℕ → W.MarkPool → Act Place
room_in n s size p = either (nat_lt p.pool_size (p.used + size)) (raise storage_error) (change (in_pools (set_used n (p.used + size))) >> done (InSubpool s))

-- a stop where the subpool was dropped; Program_Error where it belongs to another pool or to none, or is not the last
unfoldable pub subpool_storage : ℕ → ℕ → ℕ → Act Place
subpool_storage n s size =
    look (λ w. on_some (subpool_at s w.pools) (stop ReleasedSubpool) (λ x. on_some (mark_pool_at n w.pools) gone (λ p.
    either (x.belongs && (nat_eq x.pool n && nat_eq s (last_mark p))) (room_in n s size p) (raise program_error))))

-- Release (13.11.5) -------------------------------------------------------------------

-- when its release is over: the last subpool is dropped, with the dead ones before it; another one is dead, which is Program_Error
unfoldable pub dropped : ℕ → ℕ → Bool → W.MarkPool → Act Bool
dropped n s failed p = either (nat_eq s (last_mark p)) (look (λ w. counted (dropped_among p.marks w.pools) (change (in_pools (drop_released n p.marks)))) >> done failed) (change (in_pools (keep_dead s)) >> done true)

-- the subpool belongs to no pool; its members are finalized; its objects are gone; the handle is cleared; whether Program_Error is due
unfoldable pub release_from : Tools → Act Done → ℕ → ℕ → Act Bool
release_from k clear s pool =
    change (in_pools (detach s))
    >> finalize_group k Subpool (OfSubpool s)
    >>= (λ failed. look (λ w. counted (count_of (lies_in_subpool s) w) (change (empty_subpool s)))
    >> clear
    >> look (λ w. on_some (mark_pool_at pool w.pools) gone (dropped pool s failed)))

-- a stop where the subpool belongs to no pool, or holds an object that is being finalized
unfoldable pub release : Tools → Act Done → ℕ → Act Bool
release k clear s =
    look (λ w. on_some (subpool_at s w.pools) (stop ReleasedSubpool) (λ x.
    either (not x.belongs) (stop ReleasedSubpool) (either (is_busy s w) (stop FreeWhileFinalizing) (release_from k clear s x.pool))))

unfoldable pub program_error_if : Bool → Act Done
program_error_if b = either b (raise program_error) nothing

-- Unchecked_Deallocate_Subpool of a handle; of a null handle it does nothing
unfoldable pub unchecked_deallocate_subpool : Tools → Found → Act Done
unchecked_deallocate_subpool k place =
    read_found 1 place >>= (λ v. either (nat_eq (scalar_of v) 0) nothing (release k (write_found place (0 ∷ [])) (scalar_of v) >>= program_error_if))

-- The end of a pool object ---------------------------------------------------------------

-- the subpools that remain, the last first
unfoldable pub release_each : Tools → List ℕ → Bool → Act Bool
release_each k [] failed = done failed
release_each k (s ∷ ss) failed =
    look (λ w. either (belongs_now (subpool_at s w.pools)) (release k nothing s) (done false)) >>= (λ b. release_each k ss (failed || b))

-- every object in a pool that closes is gone
unfoldable pub shut_pool : ℕ → Act Done
shut_pool n = look (λ w. counted (count_of (lies_in_pool n) w) (change (close_pool_at n)))

-- a pool object closes after its Finalize; whether a Finalize raised
unfoldable pub close_pool : Tools → ℕ → Act Bool
close_pool k n =
    look (λ w. on_some (mark_pool_at n w.pools)
    (on_some (block_pool_at n w.pools) (done false) (λ p. shut_pool n >> done false))
    (λ p. release_each k p.marks false >>= (λ b. shut_pool n >> done b)))

-- The pool of an access type ----------------------------------------------------------------

unfoldable pub mark_storage : ℕ → Option (List ℕ) → ℕ → Act Place
mark_storage n None size = default_subpool n >>= (λ s. subpool_storage n s size)
mark_storage n (Some h) size = subpool_storage n (scalar_of h) size

unfoldable pub storage_in : Tools → ℕ → Option (List ℕ) → ℕ → Root → Act Place
storage_in k n handle size MarkPool = mark_storage n handle size
storage_in k n handle size _ = block_storage k n size

-- the standard pool where none was specified; its storage is the host's
unfoldable pub storage : Tools → List ℕ → Option Var → Option (List ℕ) → ℕ → Act Place
storage k env None handle size = done Standard
storage k env (Some v) handle size = find_var Composite env v >>= (λ f. existing (object_of f) (λ o. storage_in k (object_of f) handle size (root_for k.tables o.ty)))

-- everything here, opened at once
unfoldable pub opened_storage : Unit {0}
unfolding with_block_pool library_allocate library_deallocate tested storage_actuals address_in user_allocate block_storage give_back room_in subpool_storage dropped release_from release program_error_if unchecked_deallocate_subpool release_each shut_pool close_pool mark_storage storage_in storage
opened_storage = tt
