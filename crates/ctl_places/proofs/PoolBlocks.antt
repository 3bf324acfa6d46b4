-- The library's Allocate and Deallocate (13.11): what comes of a request of a block, and of a block that is given back.
use Rattle.std.proofs.Common.{◌≡◌, ℕ, List, Option, Some, None, Bool, true, false, refl, sym, ap, subst}
use Rattle.std.specs.Prelude.{◌||◌, if◌then◌else◌, nat_eq, nat_lt, not}
use Rattle.std.specs.Option.{option_map_or}
use Rattle.ctl_tree.specs.declared.ending.Stop.{Stop}
use Rattle.ctl_tree.specs.declared.ending.Stop.TheVariants.{UseAfterFree, BadAddress}
use Rattle.ctl_meaning.specs.Changes.{in_pools, opened_changes}
use Rattle.ctl_meaning.specs.Pools.{block_at, block_pool_at, give_block, take_block}
use Rattle.ctl_meaning.specs.World as W
use Rattle.ctl_meaning.specs.World.{Block, BlockPool, InBlock, Object, World}
use Rattle.ctl_storage.specs.declared.pools.BlockReturn.{BlockReturn}
use Rattle.ctl_storage.specs.declared.pools.BlockReturn.TheVariants as ReturnOf
use Rattle.ctl_storage.specs.Calls.{is_vacant_among, is_vacant_at, returned, taken_at, with_returned, with_taken}
use Rattle.ctl_objects.specs.Pools.{ShowsPools}
use Rattle.ctl_objects.specs.Stock.{Stock}
use Rattle.ctl_code.specs.Table.{Exhausted, Granted, NotReturned, Returned, UnknownPool, pool_grant, pool_return}
use Rattle.ctl_places.specs.declared.pool_blocks.Request.{Request}
use Rattle.ctl_places.specs.declared.pool_blocks.Request.TheVariants as RequestOf
use Rattle.ctl_places.specs.PoolBlocks.{IsAccepted, IsServed, is_open_at}
use Rattle.ctl_places.proofs.GivenBack.{vacant_among}

-- a world with changed pools
in_pools_is : (f : W.Pools → W.Pools) (w : World) → in_pools f w ≡ record w { pools = f w.pools }
unfolding opened_changes
in_pools_is f w = refl

-- A request --------------------------------------------------------------------------------------------

-- what is answered where the pool gave this
abbrev pub request_of : Option ℕ → Request
request_of None = RequestOf.Exhausted
request_of (Some a) = RequestOf.Taken a

-- of a pool that is open
served_by : (n size next : ℕ) (w : World) (t : Stock) (r : Option ℕ) (p : Option BlockPool) → true ≡ option_map_or (λ p. p.is_open) p false → (let full = option_map_or (λ p. nat_eq p.free 0 || nat_lt p.block_size size) p false in r ≡ (if full then None else Some w.pools.next_address)
    → ShowsPools next (if full then w.pools else take_block n w.pools) t → IsServed next w t (pool_grant n size p w) (request_of r))
served_by n size next w t r None opened answer shown = absurd (cc)
served_by n size next w t r (Some p) opened answer shown = by p.is_open (nat_eq p.free 0 || nat_lt p.block_size size) opened answer shown
  where
    by : (b full : Bool) → true ≡ b → r ≡ (if full then None else Some w.pools.next_address) → ShowsPools next (if full then w.pools else take_block n w.pools) t
        → IsServed next w t (if not b then UnknownPool else if full then Exhausted else Granted (InBlock n w.pools.next_address) (in_pools (take_block n) w)) (request_of r)
    by true true opens is shows = (ap request_of is, shows)
    by true false opens is shows = (ap request_of is, take_block n w.pools, in_pools_is (take_block n) w, shows)
    by false full opens is shows = absurd (cc)

-- of the pool of a number, which is open
pub block_served : (n size next : ℕ) (w : World) (t : Stock) (r : Option ℕ) → true ≡ is_open_at n w.pools → r ≡ taken_at n size w.pools → ShowsPools next (with_taken n size w.pools) t → IsServed next w t (pool_grant n size (block_pool_at n w.pools) w) (request_of r)
block_served n size next w t r opened answer shown = served_by n size next w t r (block_pool_at n w.pools) opened answer shown

-- A block that is given back ---------------------------------------------------------------------------

-- what is answered where the pool took it back, or did not
abbrev pub stop_of : BlockReturn → Option Stop
stop_of ReturnOf.Accepted = None
stop_of ReturnOf.Refused = Some BadAddress

-- to a pool that is open
accepted_by : (n a next : ℕ) (w : World) (t : Stock) (r : BlockReturn) (p : Option BlockPool) → true ≡ option_map_or (λ p. p.is_open) p false → (let vacant = option_map_or (λ p. is_vacant_among w.objects (block_at a p)) p false in r ≡ returned vacant
    → ShowsPools next (if vacant then give_block n a w.pools else w.pools) t → IsAccepted next w t (pool_return n a p w) (stop_of r))
accepted_by n a next w t r None opened answer shown = absurd (cc)
accepted_by n a next w t r (Some p) opened answer shown = subst (λ (z : Bool). Back p.is_open z) (sym (vacant_among w (block_at a p))) (by p.is_open (is_vacant_among w.objects (block_at a p)) opened answer shown)
  where
    Back : Bool → Bool → Type 0
    Back b vacant = IsAccepted next w t (if not b then NotReturned UseAfterFree else if vacant then Returned (in_pools (give_block n a) w) else NotReturned BadAddress) (stop_of r)

    by : (b vacant : Bool) → true ≡ b → r ≡ returned vacant → ShowsPools next (if vacant then give_block n a w.pools else w.pools) t → Back b vacant
    by true true opens is shows = (ap stop_of is, give_block n a w.pools, in_pools_is (give_block n a) w, shows)
    by true false opens is shows = (ap stop_of is, shows)
    by false vacant opens is shows = absurd (cc)

-- to the pool of a number, which is open
pub block_accepted : (n a next : ℕ) (w : World) (s t : Stock) (r : BlockReturn) → w.objects ≡ s.objects → true ≡ is_open_at n w.pools → r ≡ returned (is_vacant_at n a s.objects w.pools) → ShowsPools next (with_returned n a s.objects w.pools) t
    → IsAccepted next w t (pool_return n a (block_pool_at n w.pools) w) (stop_of r)
block_accepted n a next w s t r objects opened answer shown =
    accepted_by n a next w t r (block_pool_at n w.pools) opened (subst (λ (l : List Object). r ≡ returned (is_vacant_at n a l w.pools)) (sym objects) answer)
    (subst (λ (l : List Object). ShowsPools next (with_returned n a l w.pools) t) (sym objects) shown)
