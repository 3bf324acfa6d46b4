-- What a caller needs that has objects of another sort beside these, or calls that follow one another.
use Rattle.std.proofs.Common.{◌≡◌, ◌∙◌, ℕ, List, [], Option, Some, None, Bool, true, false, cond, refl, sym, ap, subst}
use Rattle.std.specs.Prelude.{nat_eq, nat_lt, not, ◌&&◌, ◌||◌, IfSome, IsSome, option_and_then}
use Rattle.std.specs.Option.{option_map, option_map_or}
use Rattle.std.specs.FinMap.{get}
use borrow.Author.Tests.{eq-eqb}
use Rattle.ctl_meaning.specs.World as W
use Rattle.ctl_meaning.specs.World.{Object, empty_world}
use Rattle.ctl_meaning.specs.Lists.{opened_lists}
use Rattle.ctl_meaning.specs.Pools as P
use Rattle.ctl_meaning.specs.Pools.{block_at, block_pool_at, opened_pools}
use Rattle.ctl_meaning.specs.Changes.{is_held, is_vacant, opened_changes}
use Rattle.pool_store.specs.Entries.{BlockPool}
use Rattle.ctl_storage.specs.Storage.{AreHolders, ArePools, IsShown, Storage, among, exists, held_in, holder_at, holder_in, holder_of}
use Rattle.ctl_storage.specs.Calls.{is_exhausted_at, is_fit_at, is_vacant_among, is_vacant_at}
use Rattle.ctl_storage.proofs.Shown.{block_out, noted_back, noted_held, noted_out, pool_changed, pool_kept}

-- What is true of each number that is noted ----------------------------------------------------------------

weaker_of : (Q R : ℕ → Type 0) → ((n : ℕ) → Q n → R n) → (o : Option ℕ) → IfSome o Q → IfSome o R
weaker_of Q R f None i = tt
weaker_of Q R f (Some n) i = f n i

pub holders_weaker : (Q R : ℕ → Type 0) (x : W.Pools) → ((n : ℕ) → Q n → R n) → AreHolders Q x → AreHolders R x
holders_weaker Q R x f h n a = weaker_of Q R f (holder_at n a x) (h n a)

holders_changed : (Q : ℕ → Type 0) (n : ℕ) (f : W.BlockPool → W.BlockPool) (x y : W.Pools) → ((k : ℕ) → block_pool_at k y ≡ cond (nat_eq k n) (option_map f (block_pool_at k x)) (block_pool_at k x))
    → ((p : W.BlockPool) (a : ℕ) → IfSome (option_and_then holder_of (block_at a p)) Q → IfSome (option_and_then holder_of (block_at a (f p))) Q) → AreHolders Q x → AreHolders Q y
holders_changed Q n f x y ys noted h k a = subst (λ o. IfSome (holder_in a o) Q) (sym (ys k)) (by (nat_eq k n) (block_pool_at k x) (h k a))
  where
    by : (b : Bool) (o : Option W.BlockPool) → IfSome (holder_in a o) Q → IfSome (holder_in a (cond b (option_map f o) o)) Q
    by true None i = tt
    by true (Some p) i = noted p a i
    by false o i = i

pub holders_taken : (Q : ℕ → Type 0) (n : ℕ) (x : W.Pools) → AreHolders Q x → AreHolders Q (P.take_block n x)
unfolding opened_pools
holders_taken Q n x h =
    holders_changed Q n (P.with_block_out x.next_address) x (P.take_block n x) (λ k. pool_changed k n (P.with_block_out x.next_address) x (λ p. refl)) (λ p a i. noted_out Q x.next_address a p i) h

pub holders_given : (Q : ℕ → Type 0) (n a : ℕ) (x : W.Pools) → AreHolders Q x → AreHolders Q (P.give_block n a x)
unfolding opened_pools
holders_given Q n a x h = holders_changed Q n (P.with_block_back a) x (P.give_block n a x) (λ k. pool_changed k n (P.with_block_back a) x (λ p. refl)) (λ p k i. noted_back Q a k p i) h

pub holders_held : (Q : ℕ → Type 0) (n a object : ℕ) (x : W.Pools) → Q object → AreHolders Q x → AreHolders Q (P.hold_block n a object x)
unfolding opened_pools
holders_held Q n a object x own h = holders_changed Q n (P.with_holder a object) x (P.hold_block n a object x) (λ k. pool_changed k n (P.with_holder a object) x (λ p. refl)) (λ p k i. noted_held Q a object k p own i) h

pub holders_shut : (Q : ℕ → Type 0) (n : ℕ) (x : W.Pools) → AreHolders Q x → AreHolders Q (P.shut n x)
unfolding opened_pools
holders_shut Q n x h = holders_changed Q n P.closed_block_pool x (P.shut n x) (λ k. pool_changed k n P.closed_block_pool x (λ p. refl)) (λ p a i. i) h

pub holders_opened : (Q : ℕ → Type 0) (n size count : ℕ) (x : W.Pools) → AreHolders Q x → AreHolders Q (P.push_block_pool n size count x)
unfolding opened_pools opened_lists
holders_opened Q n size count x h k a = by (nat_eq n k) (block_pool_at k x) (h k a)
  where
    by : (b : Bool) (o : Option W.BlockPool) → IfSome (holder_in a o) Q
        → IfSome (holder_in a (cond b (Some (record { object = n; is_open = true; block_size = size; block_count = count; free = count; out = [] })) o)) Q
    by true o i = tt
    by false o i = i

pub holders_kept : (Q : ℕ → Type 0) (stays : ℕ → Bool) (x : W.Pools) → AreHolders Q x → AreHolders Q (P.keep_pools stays x)
holders_kept Q stays x h k a = subst (λ o. IfSome (holder_in a o) Q) (sym (pool_kept k stays x)) (by (stays k) (block_pool_at k x) (h k a))
  where
    by : (b : Bool) (o : Option W.BlockPool) → IfSome (holder_in a o) Q → IfSome (holder_in a (cond b o None)) Q
    by true o i = i
    by false o i = tt

-- where of those that are noted the same exist in a world, a block is vacant there as it is among these objects
pub vacant_beside : (w : W.World) (os : List Object) (x : W.Pools) (n a : ℕ) (p : W.BlockPool) → AreHolders (λ m. exists m w.objects ≡ exists m os) x → block_pool_at n x ≡ Some p → is_vacant w (block_at a p) ≡ is_vacant_among os (block_at a p)
unfolding opened_changes
vacant_beside w os x n a p h there = by (block_at a p) (subst (λ o. IfSome (holder_in a o) (λ m. exists m w.objects ≡ exists m os)) there (h n a))
  where
    own : (o : Option ℕ) → IfSome o (λ m. exists m w.objects ≡ exists m os) → not (is_held w o) ≡ not (is_held (record empty_world { objects = os }) o)
    own None i = refl
    own (Some m) i = ap not i

    by : (o : Option W.Block) → IfSome (option_and_then holder_of o) (λ m. exists m w.objects ≡ exists m os) → is_vacant w o ≡ is_vacant_among os o
    by None i = refl
    by (Some b) i = own b.holder i

-- the same pools are shown by other objects, where of those that are noted the same exist
pub shown_beside : (next : ℕ) (x : W.Pools) (os : List Object) (s : Storage) → AreHolders (λ m. exists m os ≡ exists m s.objects) x → ArePools next x s → ArePools next x (record s { objects = os })
shown_beside next x os s same h = record { address = h.address; sizes = h.sizes; blocks = λ k. by k (block_pool_at k x) (get s.blocks k) refl (h.blocks k); pools = h.pools; holders = h.holders }
  where
    own : (o : Option ℕ) → IfSome o (λ m. exists m os ≡ exists m s.objects) → among s.objects o ≡ among os o
    own None i = refl
    own (Some m) i = ap (λ e. cond e (Some m) None) (sym i)

    held : (o : Option W.Block) → IfSome (option_and_then holder_of o) (λ m. exists m os ≡ exists m s.objects) → option_map (held_in s.objects) o ≡ option_map (held_in os) o
    held None i = refl
    held (Some b) i = ap (λ z. Some z) (own b.holder i)

    by : (k : ℕ) (o : Option W.BlockPool) (c : Option BlockPool) → block_pool_at k x ≡ o → IsShown s.objects o c → IsShown os o c
    by k None None e i = tt
    by k None (Some c) e i = absurd i
    by k (Some p) None e i = i
    by k (Some p) (Some c) e i = (
      i.0,
      record {
        size = i.1.size;
        free = i.1.free;
        out = λ a. i.1.out a ∙ held (block_at a p) (subst (λ o. IfSome (holder_in a o) (λ m. exists m os ≡ exists m s.objects)) e (same k a));
      },
    )

-- and then a block is vacant among those as it is among these, and fit for a size
pub vacant_alike : (os qs : List Object) (x : W.Pools) (n a : ℕ) → AreHolders (λ m. exists m os ≡ exists m qs) x → is_vacant_at n a os x ≡ is_vacant_at n a qs x
vacant_alike os qs x n a h = by (block_pool_at n x) refl
  where
    by : (o : Option W.BlockPool) → block_pool_at n x ≡ o → option_map_or (λ p. is_vacant_among os (block_at a p)) o false ≡ option_map_or (λ p. is_vacant_among qs (block_at a p)) o false
    by None there = refl
    by (Some p) there = vacant_beside (record empty_world { objects = os }) qs x n a p h there

pub fit_alike : (os qs : List Object) (x : W.Pools) (n a size : ℕ) → AreHolders (λ m. exists m os ≡ exists m qs) x → is_fit_at n a size os x ≡ is_fit_at n a size qs x
fit_alike os qs x n a size h = by (block_pool_at n x) refl
  where
    by : (o : Option W.BlockPool) → block_pool_at n x ≡ o
        → option_map_or (λ p. is_vacant_among os (block_at a p) && not (nat_lt p.block_size size)) o false ≡ option_map_or (λ p. is_vacant_among qs (block_at a p) && not (nat_lt p.block_size size)) o false
    by None there = refl
    by (Some p) there = ap (λ b. b && not (nat_lt p.block_size size)) (vacant_beside (record empty_world { objects = os }) qs x n a p h there)

-- Calls that follow one another ----------------------------------------------------------------------------

other_false : (a b : Bool) → (a || b) ≡ false → b ≡ false
other_false true b e = absurd (cc)
other_false false b e = e

-- a block that went out is fit for the object that it was taken for
pub taken_fits : (n size : ℕ) (os : List Object) (x : W.Pools) → IsSome (block_pool_at n x) → is_exhausted_at n size x ≡ false → is_fit_at n x.next_address size os (P.take_block n x) ≡ true
unfolding opened_pools opened_changes
taken_fits n size os x there free =
    ap (λ o. option_map_or (λ (p : W.BlockPool). is_vacant_among os (block_at x.next_address p) && not (nat_lt p.block_size size)) o false)
    (pool_changed n n (P.with_block_out x.next_address) x (λ p. refl) ∙ ap (λ b. cond b (option_map (P.with_block_out x.next_address) (block_pool_at n x)) (block_pool_at n x)) (eq-eqb n n refl))
    ∙ by (block_pool_at n x) there free
  where
    by : (o : Option W.BlockPool) → IsSome o → option_map_or (λ p. nat_eq p.free 0 || nat_lt p.block_size size) o false ≡ false
        → option_map_or (λ (p : W.BlockPool). is_vacant_among os (block_at x.next_address p) && not (nat_lt p.block_size size)) (option_map (P.with_block_out x.next_address) o) false ≡ true
    by None there e = absurd (cc)
    by (Some p) there e =
        ap (λ b. b && not (nat_lt p.block_size size)) (ap (is_vacant_among os) (block_out x.next_address x.next_address p ∙ ap (λ b. cond b (Some (record { address = x.next_address; holder = None })) (block_at x.next_address p)) (eq-eqb x.next_address x.next_address refl)))
        ∙ ap not (other_false (nat_eq p.free 0) (nat_lt p.block_size size) e)
