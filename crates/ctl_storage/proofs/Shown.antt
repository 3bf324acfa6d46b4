-- The meaning's pools as a storage shows them: blocks go out and come back, objects come and go, pools open and close.
use Rattle.std.proofs.Common.{◌≡◌, ◌∙◌, ℕ, ◌+◌, ◌-◌, ◌<◌, ◌≤◌, List, [], Option, Some, None, Bool, true, false, cond, refl, sym, ap, arith, subst}
use Rattle.std.specs.Prelude.{nat_eq, nat_le, nat_lt, not, ◌&&◌, ◌||◌, IfSome, IsSome, is_none, option_and_then}
use Rattle.std.specs.Option.{option_map, option_map_or}
use Rattle.std.specs.Ordering.{nat_cmp}
use Rattle.std.specs.Cmp.{nat_eq_equiv}
use Rattle.std.specs.FinMap.{FinMap, empty, get, get-empty, insert, remove}
use Rattle.std.proofs.lemmas.Bool.Decides.{nat_tests}
use borrow.Author.Tests.{eqb-true}
use Rattle.ctl_meaning.specs.World as W
use Rattle.ctl_meaning.specs.World.{Object, empty_world, opened_world}
use Rattle.ctl_meaning.specs.Lists.{opened_lists}
use Rattle.ctl_meaning.specs.Pools as P
use Rattle.ctl_meaning.specs.Pools.{block_at, block_pool_at, opened_pools}
use Rattle.ctl_meaning.specs.Changes.{is_held, opened_changes}
use Rattle.number_map.specs.Table.{change}
use Rattle.number_map.proofs.Changes.{get_dropped, get_put}
use Rattle.pool_store.specs.Entries.{BlockPool}
use Rattle.pool_store.specs.Store as S
use Rattle.ctl_storage.specs.declared.pools.PoolSize.{PoolSize}
use Rattle.ctl_storage.specs.Storage.{AreHolders, ArePools, IsPool, IsShown, Storage, among, exists, held_in, holder_at, holder_in, holder_of, size_of}
use Rattle.ctl_storage.specs.Calls.{is_exhausted_at, is_fit_at, is_vacant_among, is_vacant_at}
use Rattle.ctl_storage.proofs.InStore.{get_changed}
use Rattle.ctl_storage.proofs.Items.{at_changed, at_kept}

turned : (a b : ℕ) → nat_eq a b ≡ nat_eq b a
turned a b = nat_eq_equiv.symm a b

-- What a number finds --------------------------------------------------------------------------------------

pub pool_changed : (k n : ℕ) (f : W.BlockPool → W.BlockPool) (x : W.Pools) → ((p : W.BlockPool) → (f p).object ≡ p.object)
    → block_pool_at k (P.change_block_pool n f x) ≡ cond (nat_eq k n) (option_map f (block_pool_at k x)) (block_pool_at k x)
unfolding opened_pools
pool_changed k n f x keeps = at_changed (λ (p : W.BlockPool). p.object) k n f keeps x.block_pools

pub pool_kept : (k : ℕ) (stays : ℕ → Bool) (x : W.Pools) → block_pool_at k (P.keep_pools stays x) ≡ cond (stays k) (block_pool_at k x) None
unfolding opened_pools
pool_kept k stays x = at_kept (λ (p : W.BlockPool). p.object) stays k x.block_pools

pub block_out : (a k : ℕ) (p : W.BlockPool) → block_at k (P.with_block_out a p) ≡ cond (nat_eq a k) (Some (record { address = a; holder = None })) (block_at k p)
unfolding opened_pools opened_lists
block_out a k p = refl

pub block_back : (a k : ℕ) (p : W.BlockPool) → block_at k (P.with_block_back a p) ≡ cond (not (nat_eq k a)) (block_at k p) None
unfolding opened_pools
block_back a k p = at_kept (λ (b : W.Block). b.address) (λ m. not (nat_eq m a)) k p.out

pub block_held : (a n k : ℕ) (p : W.BlockPool) → block_at k (P.with_holder a n p) ≡ cond (nat_eq a k) (Some (record { address = a; holder = Some n })) (cond (not (nat_eq k a)) (block_at k p) None)
unfolding opened_pools opened_lists
block_held a n k p =
    ap (λ (o : Option W.Block). cond (nat_eq a k) (Some (record { address = a; holder = Some n })) o) (at_kept (λ (b : W.Block). b.address) (λ m. not (nat_eq m a)) k p.out)

-- One pool -------------------------------------------------------------------------------------------------

pool_out : (os : List Object) (p : W.BlockPool) (b : BlockPool) (a : ℕ) → IsPool os p b → IsPool os (P.with_block_out a p) (S.with_block_out a b)
unfolding opened_pools
pool_out os p b a h = record {
  size = h.size;
  free = ap (λ m. m - 1) h.free;
  out = λ k. get_put b.out a k None
      ∙ (ap (λ t. cond t (Some None) (get b.out k)) (turned k a)
      ∙ (ap (λ o. cond (nat_eq a k) (Some None) o) (h.out k)
      ∙ (by k (nat_eq a k) (block_at k p)
      ∙ sym (ap (option_map (held_in os)) (block_out a k p)))));
}
  where
    by : (k : ℕ) (t : Bool) (o : Option W.Block) → cond t (Some None) (option_map (held_in os) o) ≡ option_map (held_in os) (cond t (Some (record { address = a; holder = None })) o)
    by k true o = refl
    by k false o = refl

pool_back : (os : List Object) (p : W.BlockPool) (b : BlockPool) (a : ℕ) → IsPool os p b → IsPool os (P.with_block_back a p) (S.with_block_back a b)
unfolding opened_pools
pool_back os p b a h = record {
  size = h.size;
  free = ap (λ m. m + 1) h.free;
  out = λ k. get_dropped b.out a k
      ∙ (ap (λ o. cond (nat_eq k a) None o) (h.out k)
      ∙ (by (nat_eq k a) (block_at k p)
      ∙ sym (ap (option_map (held_in os)) (block_back a k p))));
}
  where
    by : (t : Bool) (o : Option W.Block) → cond t None (option_map (held_in os) o) ≡ option_map (held_in os) (cond (not t) o None)
    by true o = refl
    by false o = refl

pool_held : (os qs : List Object) (p : W.BlockPool) (b : BlockPool) (a n : ℕ) → exists n qs ≡ true → ((k : ℕ) → option_map (held_in qs) (block_at k p) ≡ option_map (held_in os) (block_at k p)) → IsPool os p b
    → IsPool qs (P.with_holder a n p) (S.with_holder a (Some n) b)
unfolding opened_pools
pool_held os qs p b a n there same h = record {
  size = h.size;
  free = h.free;
  out = λ k. get_put b.out a k (Some n)
      ∙ (ap (λ o. cond (nat_eq k a) (Some (Some n)) o) (h.out k ∙ sym (same k))
      ∙ (by k (nat_eq k a) (block_at k p)
      ∙ (ap (λ t. option_map (held_in qs) (cond t (Some (record { address = a; holder = Some n })) (cond (not (nat_eq k a)) (block_at k p) None))) (turned k a)
      ∙ sym (ap (option_map (held_in qs)) (block_held a n k p)))));
}
  where
    by : (k : ℕ) (t : Bool) (o : Option W.Block) → cond t (Some (Some n)) (option_map (held_in qs) o) ≡ option_map (held_in qs) (cond t (Some (record { address = a; holder = Some n })) (cond (not t) o None))
    by k true o = ap (λ e. Some (cond e (Some n) None)) (sym there)
    by k false o = refl

-- the same objects are held where the same exist of those that are noted
same_held : (os qs : List Object) (bound k : ℕ) (p : W.BlockPool) → ((m : ℕ) → m < bound → exists m qs ≡ exists m os) → IfSome (option_and_then holder_of (block_at k p)) (λ m. m < bound)
    → option_map (held_in qs) (block_at k p) ≡ option_map (held_in os) (block_at k p)
same_held os qs bound k p same noted = by (block_at k p) noted
  where
    own : (h : Option ℕ) → IfSome h (λ m. m < bound) → among qs h ≡ among os h
    own None i = refl
    own (Some m) i = ap (λ e. cond e (Some m) None) (same m i)

    by : (o : Option W.Block) → IfSome (option_and_then holder_of o) (λ m. m < bound) → option_map (held_in qs) o ≡ option_map (held_in os) o
    by None i = refl
    by (Some b) i = ap (λ h. Some h) (own b.holder i)

pool_alike : (os qs : List Object) (bound : ℕ) (p : W.BlockPool) (b : BlockPool) → ((m : ℕ) → m < bound → exists m qs ≡ exists m os) → ((k : ℕ) → IfSome (option_and_then holder_of (block_at k p)) (λ m. m < bound)) → IsPool os p b → IsPool qs p b
pool_alike os qs bound p b same noted h = record { size = h.size; free = h.free; out = λ k. h.out k ∙ sym (same_held os qs bound k p same (noted k)) }

-- What is noted of a pool that is there
noted_of : (x : W.Pools) (bound n : ℕ) (p : W.BlockPool) → AreHolders (λ m. m < bound) x → block_pool_at n x ≡ Some p → (k : ℕ) → IfSome (option_and_then holder_of (block_at k p)) (λ m. m < bound)
noted_of x bound n p h there k = subst (λ o. IfSome (holder_in k o) (λ m. m < bound)) there (h n k)

-- All pools ------------------------------------------------------------------------------------------------

later_some : (low high : ℕ) (o : Option ℕ) → low ≤ high → IfSome o (λ m. m < low) → IfSome o (λ m. m < high)
later_some low high None less i = tt
later_some low high (Some m) less i = omega (arith, less, i)

later_pool : (k low high : ℕ) (o : Option W.BlockPool) → low ≤ high → IfSome o (λ p. k < low) → IfSome o (λ p. k < high)
later_pool k low high None less i = tt
later_pool k low high (Some p) less i = omega (arith, less, i)

-- one pool changes, here and there
pools_changed : (next later n : ℕ) (f : W.BlockPool → W.BlockPool) (g : BlockPool → BlockPool) (x y : W.Pools) (s t : Storage)
    → ((p : W.BlockPool) → (f p).is_open ≡ p.is_open) → ((p : W.BlockPool) → size_of (f p) ≡ size_of p)
    → ((k : ℕ) → block_pool_at k y ≡ cond (nat_eq k n) (option_map f (block_pool_at k x)) (block_pool_at k x))
    → ((k : ℕ) → get t.blocks k ≡ cond (nat_eq k n) (option_map g (get s.blocks k)) (get s.blocks k))
    → ((p : W.BlockPool) (c : BlockPool) → block_pool_at n x ≡ Some p → IsPool s.objects p c → IsPool t.objects (f p) (g c))
    → ((k : ℕ) (p : W.BlockPool) (c : BlockPool) → block_pool_at k x ≡ Some p → IsPool s.objects p c → IsPool t.objects p c)
    → next ≤ later
    → ((p : W.BlockPool) (a : ℕ) → IfSome (option_and_then holder_of (block_at a p)) (λ m. m < later) → IfSome (option_and_then holder_of (block_at a (f p))) (λ m. m < later))
    → y.next_address ≡ t.given + 1 → t.sizes ≡ s.sizes → ArePools next x s → ArePools later y t
pools_changed next later n f g x y s t opens size ys ts own other less noted address sizes h = record {
  address = address;
  sizes = λ k. ap (λ (m : FinMap nat_cmp PoolSize). get m k) sizes ∙ (h.sizes k ∙ (by_size (nat_eq k n) (block_pool_at k x) ∙ sym (ap (option_map size_of) (ys k))));
  blocks = λ k.
      subst (λ o. IsShown t.objects o (get t.blocks k)) (sym (ys k))
      (subst (λ b. IsShown t.objects (cond (nat_eq k n) (option_map f (block_pool_at k x)) (block_pool_at k x)) b) (sym (ts k))
      (by_block k (nat_eq k n) refl (block_pool_at k x) (get s.blocks k) refl (h.blocks k)));
  pools = λ k. subst (λ o. IfSome o (λ p. k < later)) (sym (ys k)) (by_pool k (nat_eq k n) (block_pool_at k x) (later_pool k next later (block_pool_at k x) less (h.pools k)));
  holders = λ k a. subst (λ o. IfSome (holder_in a o) (λ m. m < later)) (sym (ys k)) (by_holder a (nat_eq k n) (block_pool_at k x) (later_some next later (holder_at k a x) less (h.holders k a)));
}
  where
    by_size : (b : Bool) (o : Option W.BlockPool) → option_map size_of o ≡ option_map size_of (cond b (option_map f o) o)
    by_size true None = refl
    by_size true (Some p) = ap (λ z. Some z) (sym (size p))
    by_size false o = refl

    by_block : (k : ℕ) (b : Bool) → nat_eq k n ≡ b → (o : Option W.BlockPool) (c : Option BlockPool) → block_pool_at k x ≡ o → IsShown s.objects o c → IsShown t.objects (cond b (option_map f o) o) (cond b (option_map g c) c)
    by_block k true is None None e i = tt
    by_block k true is None (Some c) e i = absurd i
    by_block k true is (Some p) None e i = opens p ∙ i
    by_block k true is (Some p) (Some c) e i = (opens p ∙ i.0, own p c (ap (λ m. block_pool_at m x) (sym (eqb-true k n is)) ∙ e) i.1)
    by_block k false is None None e i = tt
    by_block k false is None (Some c) e i = absurd i
    by_block k false is (Some p) None e i = i
    by_block k false is (Some p) (Some c) e i = (i.0, other k p c e i.1)

    by_pool : (k : ℕ) (b : Bool) (o : Option W.BlockPool) → IfSome o (λ p. k < later) → IfSome (cond b (option_map f o) o) (λ p. k < later)
    by_pool k true None i = tt
    by_pool k true (Some p) i = i
    by_pool k false o i = i

    by_holder : (a : ℕ) (b : Bool) (o : Option W.BlockPool) → IfSome (holder_in a o) (λ m. m < later) → IfSome (holder_in a (cond b (option_map f o) o)) (λ m. m < later)
    by_holder a true None i = tt
    by_holder a true (Some p) i = noted p a i
    by_holder a false o i = i

-- no pool changes, and each object that is noted exists as before
pub still : (next later : ℕ) (x : W.Pools) (s t : Storage) → next ≤ later → ((m : ℕ) → m < next → exists m t.objects ≡ exists m s.objects) → t.sizes ≡ s.sizes → t.blocks ≡ s.blocks → t.given ≡ s.given
    → ArePools next x s → ArePools later x t
still next later x s t less same sizes blocks given h = record {
  address = h.address ∙ ap (λ m. m + 1) (sym given);
  sizes = λ k. ap (λ (m : FinMap nat_cmp PoolSize). get m k) sizes ∙ h.sizes k;
  blocks = λ k. subst (λ (m : FinMap nat_cmp BlockPool). IsShown t.objects (block_pool_at k x) (get m k)) (sym blocks) (by k (block_pool_at k x) (get s.blocks k) refl (h.blocks k));
  pools = λ k. later_pool k next later (block_pool_at k x) less (h.pools k);
  holders = λ k a. later_some next later (holder_at k a x) less (h.holders k a);
}
  where
    by : (k : ℕ) (o : Option W.BlockPool) (c : Option BlockPool) → block_pool_at k x ≡ o → IsShown s.objects o c → IsShown t.objects o c
    by k None None e i = tt
    by k None (Some c) e i = absurd i
    by k (Some p) None e i = i
    by k (Some p) (Some c) e i = (i.0, pool_alike s.objects t.objects next p c same (noted_of x next k p h.holders e) i.1)

-- a greater number is the next
pub later : (low high : ℕ) (x : W.Pools) (s : Storage) → low ≤ high → ArePools low x s → ArePools high x s
later low high x s less h = still low high x s s less (λ m below. refl) refl refl refl h

-- other pools in which each number finds the same
pub pools_alike : (next : ℕ) (x y : W.Pools) (s : Storage) → ((k : ℕ) → block_pool_at k y ≡ block_pool_at k x) → y.next_address ≡ x.next_address → ArePools next x s → ArePools next y s
pools_alike next x y s same address h = record {
  address = address ∙ h.address;
  sizes = λ k. h.sizes k ∙ ap (option_map size_of) (sym (same k));
  blocks = λ k. subst (λ o. IsShown s.objects o (get s.blocks k)) (sym (same k)) (h.blocks k);
  pools = λ k. subst (λ o. IfSome o (λ p. k < next)) (sym (same k)) (h.pools k);
  holders = λ k a. subst (λ o. IfSome (holder_in a o) (λ m. m < next)) (sym (same k)) (h.holders k a);
}

-- Blocks go out and come back ------------------------------------------------------------------------------

pub noted_out : (Q : ℕ → Type 0) (a k : ℕ) (p : W.BlockPool) → IfSome (option_and_then holder_of (block_at k p)) Q → IfSome (option_and_then holder_of (block_at k (P.with_block_out a p))) Q
noted_out Q a k p i = subst (λ o. IfSome (option_and_then holder_of o) Q) (sym (block_out a k p)) (by (nat_eq a k) (block_at k p) i)
  where
    by : (b : Bool) (o : Option W.Block) → IfSome (option_and_then holder_of o) Q → IfSome (option_and_then holder_of (cond b (Some (record { address = a; holder = None })) o)) Q
    by true o i = tt
    by false o i = i

pub noted_back : (Q : ℕ → Type 0) (a k : ℕ) (p : W.BlockPool) → IfSome (option_and_then holder_of (block_at k p)) Q → IfSome (option_and_then holder_of (block_at k (P.with_block_back a p))) Q
noted_back Q a k p i = subst (λ o. IfSome (option_and_then holder_of o) Q) (sym (block_back a k p)) (by (not (nat_eq k a)) (block_at k p) i)
  where
    by : (b : Bool) (o : Option W.Block) → IfSome (option_and_then holder_of o) Q → IfSome (option_and_then holder_of (cond b o None)) Q
    by true o i = i
    by false o i = tt

pub noted_held : (Q : ℕ → Type 0) (a n k : ℕ) (p : W.BlockPool) → Q n → IfSome (option_and_then holder_of (block_at k p)) Q → IfSome (option_and_then holder_of (block_at k (P.with_holder a n p))) Q
noted_held Q a n k p own i = subst (λ o. IfSome (option_and_then holder_of o) Q) (sym (block_held a n k p)) (by (nat_eq a k) (not (nat_eq k a)) (block_at k p) i)
  where
    by : (b c : Bool) (o : Option W.Block) → IfSome (option_and_then holder_of o) Q
        → IfSome (option_and_then holder_of (cond b (Some (record { address = a; holder = Some n })) (cond c o None))) Q
    by true c o i = own
    by false true o i = i
    by false false o i = tt

pub taken : (next n : ℕ) (x : W.Pools) (s t : Storage) → t.objects ≡ s.objects → t.sizes ≡ s.sizes → t.blocks ≡ change n (S.with_block_out (s.given + 1)) s.blocks → t.given ≡ s.given + 1
    → ArePools next x s → ArePools next (P.take_block n x) t
unfolding opened_pools
taken next n x s t objects sizes blocks given h =
    pools_changed next next n (P.with_block_out x.next_address) (S.with_block_out (s.given + 1)) x (P.take_block n x) s t (λ p. refl) (λ p. refl)
    (λ k. pool_changed k n (P.with_block_out x.next_address) x (λ p. refl))
    (λ k. ap (λ (m : FinMap nat_cmp BlockPool). get m k) blocks ∙ get_changed s.blocks n k (S.with_block_out (s.given + 1)))
    (λ p c there i.
    subst (λ (os : List Object). IsPool os (P.with_block_out x.next_address p) (S.with_block_out (s.given + 1) c)) (sym objects)
    (subst (λ a. IsPool s.objects (P.with_block_out a p) (S.with_block_out (s.given + 1) c)) (sym h.address) (pool_out s.objects p c (s.given + 1) i)))
    (λ k p c there i. subst (λ (os : List Object). IsPool os p c) (sym objects) i)
    (omega arith)
    (λ p a i. noted_out (λ m. m < next) x.next_address a p i)
    (ap (λ m. m + 1) h.address ∙ ap (λ m. m + 1) (sym given))
    sizes h

pub given_back : (next n a : ℕ) (x : W.Pools) (s t : Storage) → t.objects ≡ s.objects → t.sizes ≡ s.sizes → t.blocks ≡ change n (S.with_block_back a) s.blocks → t.given ≡ s.given
    → ArePools next x s → ArePools next (P.give_block n a x) t
unfolding opened_pools
given_back next n a x s t objects sizes blocks given h =
    pools_changed next next n (P.with_block_back a) (S.with_block_back a) x (P.give_block n a x) s t (λ p. refl) (λ p. refl)
    (λ k. pool_changed k n (P.with_block_back a) x (λ p. refl))
    (λ k. ap (λ (m : FinMap nat_cmp BlockPool). get m k) blocks ∙ get_changed s.blocks n k (S.with_block_back a))
    (λ p c there i. subst (λ (os : List Object). IsPool os (P.with_block_back a p) (S.with_block_back a c)) (sym objects) (pool_back s.objects p c a i))
    (λ k p c there i. subst (λ (os : List Object). IsPool os p c) (sym objects) i)
    (omega arith)
    (λ p k i. noted_back (λ m. m < next) a k p i)
    (h.address ∙ ap (λ m. m + 1) (sym given))
    sizes h

-- an object is put into a block
pub put_in : (number n a : ℕ) (x : W.Pools) (s t : Storage) → exists number t.objects ≡ true → ((m : ℕ) → m < number → exists m t.objects ≡ exists m s.objects) → t.sizes ≡ s.sizes
    → t.blocks ≡ change n (S.with_holder a (Some number)) s.blocks → t.given ≡ s.given → ArePools number x s → ArePools (number + 1) (P.hold_block n a number x) t
unfolding opened_pools
put_in number n a x s t there same sizes blocks given h =
    pools_changed number (number + 1) n (P.with_holder a number) (S.with_holder a (Some number)) x (P.hold_block n a number x) s t (λ p. refl) (λ p. refl)
    (λ k. pool_changed k n (P.with_holder a number) x (λ p. refl))
    (λ k. ap (λ (m : FinMap nat_cmp BlockPool). get m k) blocks ∙ get_changed s.blocks n k (S.with_holder a (Some number)))
    (λ p c found i. pool_held s.objects t.objects p c a number there (λ k. same_held s.objects t.objects number k p same (noted_of x number n p h.holders found k)) i)
    (λ k p c found i. pool_alike s.objects t.objects number p c same (noted_of x number k p h.holders found) i)
    (omega arith)
    (λ p k i. noted_held (λ m. m < number + 1) a number k p (omega arith) i)
    (h.address ∙ ap (λ m. m + 1) (sym given))
    sizes h

-- An object goes -------------------------------------------------------------------------------------------

-- a number but one
abbrev pub without : ℕ → Option ℕ → Option ℕ
without n None = None
without n (Some m) = cond (nat_eq m n) None (Some m)

-- the object of this number lies in no block of the pool any more
abbrev pub IsVacated : ℕ → Option BlockPool → Option BlockPool → Type 0
IsVacated n None None = Unit {0}
IsVacated n None (Some c) = ⊥
IsVacated n (Some b) None = ⊥
IsVacated n (Some b) (Some c) = (c.size ≡ b.size) × (c.free ≡ b.free) × ((a : ℕ) → get c.out a ≡ option_map (without n) (get b.out a))

pub gone : (next n : ℕ) (x : W.Pools) (s t : Storage) → ((m : ℕ) → exists m t.objects ≡ cond (nat_eq m n) false (exists m s.objects)) → t.sizes ≡ s.sizes → t.given ≡ s.given
    → ((k : ℕ) → IsVacated n (get s.blocks k) (get t.blocks k)) → ArePools next x s → ArePools next x t
gone next n x s t left sizes given vacated h = record {
  address = h.address ∙ ap (λ m. m + 1) (sym given);
  sizes = λ k. ap (λ (m : FinMap nat_cmp PoolSize). get m k) sizes ∙ h.sizes k;
  blocks = λ k. by (block_pool_at k x) (get s.blocks k) (get t.blocks k) (vacated k) (h.blocks k);
  pools = h.pools;
  holders = h.holders;
}
  where
    own : (m : ℕ) (b : Bool) → nat_eq m n ≡ b → (e : Bool) → cond (cond b false e) (Some m) None ≡ without n (cond e (Some m) None)
    own m true is true = ap (λ t. cond t None (Some m)) (sym is)
    own m false is true = ap (λ t. cond t None (Some m)) (sym is)
    own m true is false = refl
    own m false is false = refl

    held : (o : Option ℕ) → without n (among s.objects o) ≡ among t.objects o
    held None = refl
    held (Some m) = sym (ap (λ e. cond e (Some m) None) (left m) ∙ own m (nat_eq m n) refl (exists m s.objects))

    block : (o : Option W.Block) → option_map (without n) (option_map (held_in s.objects) o) ≡ option_map (held_in t.objects) o
    block None = refl
    block (Some b) = ap (λ z. Some z) (held b.holder)

    by : (o : Option W.BlockPool) (b c : Option BlockPool) → IsVacated n b c → IsShown s.objects o b → IsShown t.objects o c
    by None None None v i = tt
    by None None (Some c) v i = absurd v
    by None (Some b) c v i = absurd i
    by (Some p) None None v i = i
    by (Some p) None (Some c) v i = absurd v
    by (Some p) (Some b) None v i = absurd v
    by (Some p) (Some b) (Some c) v i = (
      i.0,
      record {
        size = v.0 ∙ i.1.size;
        free = v.1 ∙ i.1.free;
        out = λ a. v.2 a ∙ (ap (option_map (without n)) (i.1.out a) ∙ block (block_at a p));
      },
    )

-- Pools open and close -------------------------------------------------------------------------------------

pub opened : (next n : ℕ) (z : PoolSize) (x : W.Pools) (s t : Storage) → n < next → t.objects ≡ s.objects → t.sizes ≡ insert s.sizes n z
    → t.blocks ≡ insert s.blocks n (record { size = z.block_size; free = z.block_count; out = empty }) → t.given ≡ s.given
    → ArePools next x s → ArePools next (P.push_block_pool n z.block_size z.block_count x) t
unfolding opened_pools opened_lists
opened next n z x s t less objects sizes blocks given h = record {
  address = h.address ∙ ap (λ m. m + 1) (sym given);
  sizes = λ k. ap (λ (m : FinMap nat_cmp PoolSize). get m k) sizes ∙ (get_put s.sizes n k z ∙ (ap (λ b. cond b (Some z) (get s.sizes k)) (turned k n) ∙ by_size k (nat_eq n k)));
  blocks = λ k.
      subst (λ (m : FinMap nat_cmp BlockPool). IsShown t.objects (block_pool_at k (P.push_block_pool n z.block_size z.block_count x)) (get m k)) (sym blocks)
      (subst (λ b. IsShown t.objects (block_pool_at k (P.push_block_pool n z.block_size z.block_count x)) b) (sym (get_put s.blocks n k new ∙ ap (λ b. cond b (Some new) (get s.blocks k)) (turned k n)))
      (by_block (nat_eq n k) (block_pool_at k x) (get s.blocks k) (subst (λ (os : List Object). IsShown os (block_pool_at k x) (get s.blocks k)) (sym objects) (h.blocks k))));
  pools = λ k. by_pool k (nat_eq n k) refl (block_pool_at k x) (h.pools k);
  holders = λ k a. by_holder a (nat_eq n k) (block_pool_at k x) (h.holders k a);
}
  where
    new : BlockPool
    new = record { size = z.block_size; free = z.block_count; out = empty }

    shown : W.BlockPool
    shown = record { object = n; is_open = true; block_size = z.block_size; block_count = z.block_count; free = z.block_count; out = [] }

    by_size : (k : ℕ) (b : Bool) → cond b (Some z) (get s.sizes k) ≡ option_map size_of (cond b (Some shown) (block_pool_at k x))
    by_size k true = refl
    by_size k false = h.sizes k

    by_block : (b : Bool) (o : Option W.BlockPool) (c : Option BlockPool) → IsShown t.objects o c → IsShown t.objects (cond b (Some shown) o) (cond b (Some new) c)
    by_block true o c i = (refl, record { size = refl; free = refl; out = λ a. get-empty nat_cmp a })
    by_block false o c i = i

    by_pool : (k : ℕ) (b : Bool) → nat_eq n k ≡ b → (o : Option W.BlockPool) → IfSome o (λ p. k < next) → IfSome (cond b (Some shown) o) (λ p. k < next)
    by_pool k true is o i = subst (λ m. m < next) (eqb-true n k is) less
    by_pool k false is o i = i

    by_holder : (a : ℕ) (b : Bool) (o : Option W.BlockPool) → IfSome (holder_in a o) (λ m. m < next) → IfSome (holder_in a (cond b (Some shown) o)) (λ m. m < next)
    by_holder a true o i = tt
    by_holder a false o i = i

pub closed : (next n : ℕ) (x : W.Pools) (s t : Storage) → t.objects ≡ s.objects → t.sizes ≡ s.sizes → ((k : ℕ) → get t.blocks k ≡ cond (nat_eq k n) None (get s.blocks k)) → t.given ≡ s.given
    → ArePools next x s → ArePools next (P.shut n x) t
unfolding opened_pools
closed next n x s t objects sizes blocks given h = record {
  address = h.address ∙ ap (λ m. m + 1) (sym given);
  sizes = λ k. ap (λ (m : FinMap nat_cmp PoolSize). get m k) sizes ∙ (h.sizes k ∙ (by_size (nat_eq k n) (block_pool_at k x) ∙ sym (ap (option_map size_of) (there k))));
  blocks = λ k.
      subst (λ o. IsShown t.objects o (get t.blocks k)) (sym (there k))
      (subst (λ b. IsShown t.objects (cond (nat_eq k n) (option_map P.closed_block_pool (block_pool_at k x)) (block_pool_at k x)) b) (sym (blocks k))
      (by_block (nat_eq k n) (block_pool_at k x) (get s.blocks k) (subst (λ (os : List Object). IsShown os (block_pool_at k x) (get s.blocks k)) (sym objects) (h.blocks k))));
  pools = λ k. subst (λ o. IfSome o (λ p. k < next)) (sym (there k)) (by_pool k (nat_eq k n) (block_pool_at k x) (h.pools k));
  holders = λ k a. subst (λ o. IfSome (holder_in a o) (λ m. m < next)) (sym (there k)) (by_holder a (nat_eq k n) (block_pool_at k x) (h.holders k a));
}
  where
    there : (k : ℕ) → block_pool_at k (P.shut n x) ≡ cond (nat_eq k n) (option_map P.closed_block_pool (block_pool_at k x)) (block_pool_at k x)
    there k = pool_changed k n P.closed_block_pool x (λ p. refl)

    by_size : (b : Bool) (o : Option W.BlockPool) → option_map size_of o ≡ option_map size_of (cond b (option_map P.closed_block_pool o) o)
    by_size true None = refl
    by_size true (Some p) = refl
    by_size false o = refl

    by_block : (b : Bool) (o : Option W.BlockPool) (c : Option BlockPool) → IsShown t.objects o c → IsShown t.objects (cond b (option_map P.closed_block_pool o) o) (cond b None c)
    by_block true None c i = tt
    by_block true (Some p) c i = refl
    by_block false o c i = i

    by_pool : (k : ℕ) (b : Bool) (o : Option W.BlockPool) → IfSome o (λ p. k < next) → IfSome (cond b (option_map P.closed_block_pool o) o) (λ p. k < next)
    by_pool k true None i = tt
    by_pool k true (Some p) i = i
    by_pool k false o i = i

    by_holder : (a : ℕ) (b : Bool) (o : Option W.BlockPool) → IfSome (holder_in a o) (λ m. m < next) → IfSome (holder_in a (cond b (option_map P.closed_block_pool o) o)) (λ m. m < next)
    by_holder a true None i = tt
    by_holder a true (Some p) i = i
    by_holder a false o i = i

-- a pool that has closed is there no more
pub dropped : (next n : ℕ) (x : W.Pools) (s t : Storage) → t.objects ≡ s.objects → t.sizes ≡ remove s.sizes n → t.blocks ≡ s.blocks → get s.blocks n ≡ None → t.given ≡ s.given
    → ArePools next (P.shut n x) s → ArePools next (P.keep_pools (λ m. not (nat_eq m n)) x) t
unfolding opened_pools
dropped next n x s t objects sizes blocks none given h = record {
  address = h.address ∙ ap (λ m. m + 1) (sym given);
  sizes = λ k.
      ap (λ (m : FinMap nat_cmp PoolSize). get m k) sizes
      ∙ (get_dropped s.sizes n k ∙ (ap (λ z. cond (nat_eq k n) None z) (h.sizes k ∙ ap (option_map size_of) (closed_at k)) ∙ (by_size (nat_eq k n) (block_pool_at k x) ∙ sym (ap (option_map size_of) (left k)))));
  blocks = λ k.
      subst (λ o. IsShown t.objects o (get t.blocks k)) (sym (left k))
      (subst (λ (m : FinMap nat_cmp BlockPool). IsShown t.objects (cond (not (nat_eq k n)) (block_pool_at k x) None) (get m k)) (sym blocks)
      (by_block k (nat_eq k n) refl (subst (λ (os : List Object). IsShown os (block_pool_at k (P.shut n x)) (get s.blocks k)) (sym objects) (h.blocks k))));
  pools = λ k. subst (λ o. IfSome o (λ p. k < next)) (sym (left k)) (by_pool k (nat_eq k n) (block_pool_at k x) (subst (λ o. IfSome o (λ p. k < next)) (closed_at k) (h.pools k)));
  holders = λ k a. subst (λ o. IfSome (holder_in a o) (λ m. m < next)) (sym (left k)) (by_holder a (nat_eq k n) (block_pool_at k x) (subst (λ o. IfSome (holder_in a o) (λ m. m < next)) (closed_at k) (h.holders k a)));
}
  where
    closed_at : (k : ℕ) → block_pool_at k (P.shut n x) ≡ cond (nat_eq k n) (option_map P.closed_block_pool (block_pool_at k x)) (block_pool_at k x)
    closed_at k = pool_changed k n P.closed_block_pool x (λ p. refl)

    left : (k : ℕ) → block_pool_at k (P.keep_pools (λ m. not (nat_eq m n)) x) ≡ cond (not (nat_eq k n)) (block_pool_at k x) None
    left k = pool_kept k (λ m. not (nat_eq m n)) x

    by_size : (b : Bool) (o : Option W.BlockPool) → cond b None (option_map size_of (cond b (option_map P.closed_block_pool o) o)) ≡ option_map size_of (cond (not b) o None)
    by_size true o = refl
    by_size false o = refl

    by_block : (k : ℕ) (b : Bool) → nat_eq k n ≡ b → IsShown t.objects (block_pool_at k (P.shut n x)) (get s.blocks k) → IsShown t.objects (cond (not b) (block_pool_at k x) None) (get s.blocks k)
    by_block k true is i = subst (λ c. IsShown t.objects None c) (sym (ap (get s.blocks) (eqb-true k n is) ∙ none)) tt
    by_block k false is i = subst (λ o. IsShown t.objects o (get s.blocks k)) (closed_at k ∙ ap (λ b. cond b (option_map P.closed_block_pool (block_pool_at k x)) (block_pool_at k x)) is) i

    by_pool : (k : ℕ) (b : Bool) (o : Option W.BlockPool) → IfSome (cond b (option_map P.closed_block_pool o) o) (λ p. k < next) → IfSome (cond (not b) o None) (λ p. k < next)
    by_pool k true o i = tt
    by_pool k false o i = i

    by_holder : (a : ℕ) (b : Bool) (o : Option W.BlockPool) → IfSome (holder_in a (cond b (option_map P.closed_block_pool o) o)) (λ m. m < next) → IfSome (holder_in a (cond (not b) o None)) (λ m. m < next)
    by_holder a true o i = tt
    by_holder a false o i = i

-- no pool is there at first
pub none_shown : (s : Storage) → s.sizes ≡ empty → s.blocks ≡ empty → s.given ≡ 0 → ArePools 1 W.empty_pools s
unfolding opened_pools opened_lists opened_world
none_shown s sizes blocks given = record {
  address = ap (λ m. m + 1) (sym given);
  sizes = λ k. ap (λ (m : FinMap nat_cmp PoolSize). get m k) sizes ∙ get-empty nat_cmp k;
  blocks = λ k. subst (λ b. IsShown s.objects None b) (sym (ap (λ (m : FinMap nat_cmp BlockPool). get m k) blocks ∙ get-empty nat_cmp k)) tt;
  pools = λ k. tt;
  holders = λ k a. tt;
}

-- What is answered -----------------------------------------------------------------------------------------

pub vacant_in : (os : List Object) (p : W.BlockPool) (b : BlockPool) (a : ℕ) → IsPool os p b → S.is_vacant a b ≡ is_vacant_among os (block_at a p)
unfolding opened_changes
vacant_in os p b a h = ap (λ o. option_map_or is_none o false) (h.out a) ∙ by (block_at a p)
  where
    test : (m : ℕ) (e : Bool) → is_none (cond e (Some m) None) ≡ not e
    test m true = refl
    test m false = refl

    own : (h : Option ℕ) → is_none (among os h) ≡ not (is_held (record empty_world { objects = os }) h)
    own None = refl
    own (Some m) = test m (exists m os)

    by : (o : Option W.Block) → option_map_or is_none (option_map (held_in os) o) false ≡ is_vacant_among os o
    by None = refl
    by (Some z) = own z.holder

pub vacant_at : (next n a : ℕ) (x : W.Pools) (s : Storage) → IsSome (get s.blocks n) → ArePools next x s → option_map_or (S.is_vacant a) (get s.blocks n) false ≡ is_vacant_at n a s.objects x
vacant_at next n a x s stands h = by (block_pool_at n x) (get s.blocks n) stands (h.blocks n)
  where
    by : (o : Option W.BlockPool) (c : Option BlockPool) → IsSome c → IsShown s.objects o c → option_map_or (S.is_vacant a) c false ≡ option_map_or (λ p. is_vacant_among s.objects (block_at a p)) o false
    by o None stands i = absurd (cc)
    by None (Some c) stands i = absurd i
    by (Some p) (Some c) stands i = vacant_in s.objects p c a i.1

pub exhausted_at : (next n size : ℕ) (x : W.Pools) (s : Storage) → IsSome (get s.blocks n) → ArePools next x s → option_map_or (S.is_exhausted size) (get s.blocks n) false ≡ is_exhausted_at n size x
exhausted_at next n size x s stands h = by (block_pool_at n x) (get s.blocks n) stands (h.blocks n)
  where
    by : (o : Option W.BlockPool) (c : Option BlockPool) → IsSome c → IsShown s.objects o c → option_map_or (S.is_exhausted size) c false ≡ option_map_or (λ p. nat_eq p.free 0 || nat_lt p.block_size size) o false
    by o None stands i = absurd (cc)
    by None (Some c) stands i = absurd i
    by (Some p) (Some c) stands i = ap (λ m. nat_eq m 0 || nat_lt c.size size) i.1.free ∙ ap (λ m. nat_eq p.free 0 || nat_lt m size) i.1.size

not_less : (a b : ℕ) → nat_le a b ≡ not (nat_lt b a)
not_less a b = grind (arith, nat_tests)

is_less : (few size most : ℕ) → few ≤ size → nat_le size most ≡ true → nat_le few most ≡ true
is_less few size most less is = grind (arith, nat_tests, is)

-- whether an object of few cells may be put into a block, where blocks are as large as its size
pub fit_at : (next n a few size : ℕ) (x : W.Pools) (s : Storage) → few ≤ size → option_map_or (λ z. nat_le size z.block_size) (get s.sizes n) false ≡ true → IsSome (get s.blocks n) → ArePools next x s
    → option_map_or (S.is_fit a few) (get s.blocks n) false ≡ is_fit_at n a size s.objects x
fit_at next n a few size x s less large stands h = by (block_pool_at n x) (get s.blocks n) (sym (ap (λ o. option_map_or (λ (z : PoolSize). nat_le size z.block_size) o false) (h.sizes n)) ∙ large) stands (h.blocks n)
  where
    by : (o : Option W.BlockPool) (c : Option BlockPool) → option_map_or (λ (z : PoolSize). nat_le size z.block_size) (option_map size_of o) false ≡ true → IsSome c → IsShown s.objects o c
        → option_map_or (S.is_fit a few) c false ≡ option_map_or (λ p. is_vacant_among s.objects (block_at a p) && not (nat_lt p.block_size size)) o false
    by o None is stands i = absurd (cc)
    by None (Some c) is stands i = absurd i
    by (Some p) (Some c) is stands i =
        ap (λ b. b && nat_le few c.size) (vacant_in s.objects p c a i.1)
        ∙ (ap (λ m. is_vacant_among s.objects (block_at a p) && nat_le few m) i.1.size
        ∙ (ap (λ b. is_vacant_among s.objects (block_at a p) && b) (is_less few size p.block_size less is)
        ∙ ap (λ b. is_vacant_among s.objects (block_at a p) && b) (sym (sym (not_less size p.block_size) ∙ is))))

-- or they are smaller
pub unfit_at : (next n a size : ℕ) (x : W.Pools) (s : Storage) → option_map_or (λ z. nat_le size z.block_size) (get s.sizes n) false ≡ false → ArePools next x s → is_fit_at n a size s.objects x ≡ false
unfit_at next n a size x s small h = by (block_pool_at n x) (sym (ap (λ o. option_map_or (λ (z : PoolSize). nat_le size z.block_size) o false) (h.sizes n)) ∙ small)
  where
    never : (b : Bool) → (b && false) ≡ false
    never true = refl
    never false = refl

    by : (o : Option W.BlockPool) → option_map_or (λ (z : PoolSize). nat_le size z.block_size) (option_map size_of o) false ≡ false → option_map_or (λ p. is_vacant_among s.objects (block_at a p) && not (nat_lt p.block_size size)) o false ≡ false
    by None is = refl
    by (Some p) is = ap (λ b. is_vacant_among s.objects (block_at a p) && b) (sym (not_less size p.block_size) ∙ is) ∙ never (is_vacant_among s.objects (block_at a p))
