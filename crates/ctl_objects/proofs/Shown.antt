-- Of the pools that are kept, those whose objects exist: as pools and objects change.
use Rattle.std.proofs.Common.{◌≡◌, ◌∙◌, ℕ, ◌+◌, List, [], Option, Some, None, Bool, true, false, cond, refl, sym, ap, subst}
use Rattle.std.specs.Prelude.{IfSome, nat_eq, nat_lt, not, ◌&&◌, ◌||◌}
use Rattle.std.specs.Option.{option_map, option_map_or}
use borrow.Author.Tests.{eqb-true}
use Rattle.ctl_meaning.specs.World as W
use Rattle.ctl_meaning.specs.World.{Object}
use Rattle.ctl_meaning.specs.Lists.{opened_lists}
use Rattle.ctl_meaning.specs.Pools as P
use Rattle.ctl_meaning.specs.Pools.{block_at, block_pool_at, opened_pools}
use Rattle.ctl_storage.specs.Calls.{is_exhausted_at, is_fit_at, is_vacant_among, is_vacant_at, taken_at, with_returned, with_taken}
use Rattle.ctl_storage.specs.Storage.{exists}
use Rattle.ctl_storage.proofs.Shown.{pool_changed, pool_kept}
use Rattle.ctl_objects.specs.Pools.{AreExisting}

no_pool : (b : Bool) → (let none : Option W.BlockPool = None in cond b none none) ≡ None
no_pool true = refl
no_pool false = refl

-- Other objects --------------------------------------------------------------------------------------------

-- other objects, of which the same exist that are pools
pub existing_alike : (os zs : List Object) (x y : W.Pools) → ((n : ℕ) → IfSome (block_pool_at n y) (λ p. exists n zs ≡ exists n os)) → AreExisting os x y → AreExisting zs x y
existing_alike os zs x y same h = record { address = h.address; pools = λ n. h.pools n ∙ by n (block_pool_at n y) (same n) }
  where
    by : (n : ℕ) (o : Option W.BlockPool) → IfSome o (λ p. exists n zs ≡ exists n os) → cond (exists n os) o None ≡ cond (exists n zs) o None
    by n None i = no_pool (exists n os) ∙ sym (no_pool (exists n zs))
    by n (Some p) i = ap (λ b. cond b (Some p) None) (sym i)

-- objects go, and so do their pools, and perhaps pools that are kept
pub existing_left : (os zs : List Object) (stays : ℕ → Bool) (x y : W.Pools) → ((n : ℕ) → exists n zs ≡ true → (exists n os ≡ true) × (stays n ≡ true)) → AreExisting os x y → AreExisting zs (P.keep_pools (λ n. exists n zs) x) (P.keep_pools stays y)
unfolding opened_pools
existing_left os zs stays x y left h = record { address = h.address; pools = λ n. pool_kept n (λ k. exists k zs) x ∙ by n (exists n zs) refl }
  where
    by : (n : ℕ) (b : Bool) → exists n zs ≡ b → cond b (block_pool_at n x) None ≡ cond b (block_pool_at n (P.keep_pools stays y)) None
    by n false is = refl
    by n true is =
        let both = left n is in
        h.pools n ∙ (ap (λ b. cond b (block_pool_at n y) None) both.0 ∙ sym (pool_kept n stays y ∙ ap (λ b. cond b (block_pool_at n y) None) both.1))

-- One pool changes -----------------------------------------------------------------------------------------

existing_changed : (os : List Object) (n : ℕ) (f : W.BlockPool → W.BlockPool) (x y v w : W.Pools) → ((k : ℕ) → block_pool_at k v ≡ cond (nat_eq k n) (option_map f (block_pool_at k x)) (block_pool_at k x))
    → ((k : ℕ) → block_pool_at k w ≡ cond (nat_eq k n) (option_map f (block_pool_at k y)) (block_pool_at k y)) → v.next_address ≡ w.next_address → AreExisting os x y → AreExisting os v w
existing_changed os n f x y v w vs ws address h = record {
  address = address;
  pools = λ k. vs k ∙ (ap (λ o. cond (nat_eq k n) (option_map f o) o) (h.pools k) ∙ (by (exists k os) (nat_eq k n) (block_pool_at k y) ∙ sym (ap (λ o. cond (exists k os) o None) (ws k))));
}
  where
    by : (e b : Bool) (o : Option W.BlockPool) → cond b (option_map f (cond e o None)) (cond e o None) ≡ cond e (cond b (option_map f o) o) None
    by true b o = refl
    by false true o = refl
    by false false o = refl

pub existing_held : (os : List Object) (n a object : ℕ) (x y : W.Pools) → AreExisting os x y → AreExisting os (P.hold_block n a object x) (P.hold_block n a object y)
unfolding opened_pools
existing_held os n a object x y h =
    existing_changed os n (P.with_holder a object) x y (P.hold_block n a object x) (P.hold_block n a object y) (λ k. pool_changed k n (P.with_holder a object) x (λ p. refl)) (λ k. pool_changed k n (P.with_holder a object) y (λ p. refl)) h.address h

pub existing_shut : (os : List Object) (n : ℕ) (x y : W.Pools) → AreExisting os x y → AreExisting os (P.shut n x) (P.shut n y)
unfolding opened_pools
existing_shut os n x y h =
    existing_changed os n P.closed_block_pool x y (P.shut n x) (P.shut n y) (λ k. pool_changed k n P.closed_block_pool x (λ p. refl)) (λ k. pool_changed k n P.closed_block_pool y (λ p. refl)) h.address h

existing_given : (os : List Object) (n a : ℕ) (x y : W.Pools) → AreExisting os x y → AreExisting os (P.give_block n a x) (P.give_block n a y)
unfolding opened_pools
existing_given os n a x y h =
    existing_changed os n (P.with_block_back a) x y (P.give_block n a x) (P.give_block n a y) (λ k. pool_changed k n (P.with_block_back a) x (λ p. refl)) (λ k. pool_changed k n (P.with_block_back a) y (λ p. refl)) h.address h

existing_out : (os : List Object) (n : ℕ) (x y : W.Pools) → AreExisting os x y → AreExisting os (P.take_block n x) (P.take_block n y)
unfolding opened_pools
existing_out os n x y h =
    existing_changed os n (P.with_block_out y.next_address) x y (P.take_block n x) (P.take_block n y)
    (λ k. pool_changed k n (P.with_block_out x.next_address) x (λ p. refl) ∙ ap (λ a. cond (nat_eq k n) (option_map (P.with_block_out a) (block_pool_at k x)) (block_pool_at k x)) h.address)
    (λ k. pool_changed k n (P.with_block_out y.next_address) y (λ p. refl)) (ap (λ a. a + 1) h.address) h

pub existing_opened : (os : List Object) (n size count : ℕ) (x y : W.Pools) → exists n os ≡ true → AreExisting os x y → AreExisting os (P.push_block_pool n size count x) (P.push_block_pool n size count y)
unfolding opened_pools opened_lists
existing_opened os n size count x y there h = record { address = h.address; pools = λ k. by k (nat_eq n k) refl }
  where
    new : W.BlockPool
    new = record { object = n; is_open = true; block_size = size; block_count = count; free = count; out = [] }

    by : (k : ℕ) (b : Bool) → nat_eq n k ≡ b → cond b (Some new) (block_pool_at k x) ≡ cond (exists k os) (cond b (Some new) (block_pool_at k y)) None
    by k true is = sym (ap (λ b. cond b (Some new) None) (ap (λ m. exists m os) (sym (eqb-true n k is)) ∙ there))
    by k false is = h.pools k

-- A pool whose object exists -------------------------------------------------------------------------------

pub same_pool : (os : List Object) (n : ℕ) (x y : W.Pools) → exists n os ≡ true → AreExisting os x y → block_pool_at n x ≡ block_pool_at n y
same_pool os n x y there h = h.pools n ∙ ap (λ b. cond b (block_pool_at n y) None) there

same_exhausted : (os : List Object) (n size : ℕ) (x y : W.Pools) → exists n os ≡ true → AreExisting os x y → is_exhausted_at n size x ≡ is_exhausted_at n size y
same_exhausted os n size x y there h = ap (λ (o : Option W.BlockPool). option_map_or (λ p. nat_eq p.free 0 || nat_lt p.block_size size) o false) (same_pool os n x y there h)

pub same_taken : (os : List Object) (n size : ℕ) (x y : W.Pools) → exists n os ≡ true → AreExisting os x y → taken_at n size x ≡ taken_at n size y
same_taken os n size x y there h = ap (λ b. cond b None (Some x.next_address)) (same_exhausted os n size x y there h) ∙ ap (λ a. cond (is_exhausted_at n size y) None (Some a)) h.address

pub same_vacant : (os qs : List Object) (n a : ℕ) (x y : W.Pools) → exists n os ≡ true → AreExisting os x y → is_vacant_at n a qs x ≡ is_vacant_at n a qs y
same_vacant os qs n a x y there h = ap (λ (o : Option W.BlockPool). option_map_or (λ p. is_vacant_among qs (block_at a p)) o false) (same_pool os n x y there h)

pub same_fit : (os qs : List Object) (n a size : ℕ) (x y : W.Pools) → exists n os ≡ true → AreExisting os x y → is_fit_at n a size qs x ≡ is_fit_at n a size qs y
same_fit os qs n a size x y there h = ap (λ (o : Option W.BlockPool). option_map_or (λ p. is_vacant_among qs (block_at a p) && not (nat_lt p.block_size size)) o false) (same_pool os n x y there h)

pub existing_taken : (os : List Object) (n size : ℕ) (x y : W.Pools) → exists n os ≡ true → AreExisting os x y → AreExisting os (with_taken n size x) (with_taken n size y)
existing_taken os n size x y there h = subst (λ b. AreExisting os (cond b x (P.take_block n x)) (with_taken n size y)) (sym (same_exhausted os n size x y there h)) (by (is_exhausted_at n size y))
  where
    by : (b : Bool) → AreExisting os (cond b x (P.take_block n x)) (cond b y (P.take_block n y))
    by true = h
    by false = existing_out os n x y h

pub existing_returned : (os qs : List Object) (n a : ℕ) (x y : W.Pools) → exists n os ≡ true → AreExisting os x y → AreExisting os (with_returned n a qs x) (with_returned n a qs y)
existing_returned os qs n a x y there h = subst (λ b. AreExisting os (cond b (P.give_block n a x) x) (with_returned n a qs y)) (sym (same_vacant os qs n a x y there h)) (by (is_vacant_at n a qs y))
  where
    by : (b : Bool) → AreExisting os (cond b (P.give_block n a x) x) (cond b (P.give_block n a y) y)
    by true = existing_given os n a x y h
    by false = h
