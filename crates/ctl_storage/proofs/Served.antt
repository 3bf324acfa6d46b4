-- A block goes out, and a new object lies in it.
use Rattle.std.proofs.Common.{◌≡◌, ◌∙◌, ℕ, ◌+◌, ◌≤◌, Option, Some, None, Bool, true, false, cond, refl, sym, ap, arith, subst}
use Rattle.std.specs.Prelude.{nat_eq, nat_le, nat_lt, ◌&&◌, ◌||◌, IsSome, MatchOption, is_none}
use Rattle.std.specs.Option.{option_map, option_map_or}
use Rattle.std.specs.FinMap.{get, insert}
use Rattle.std.proofs.lemmas.Bool.Decides.{nat_tests}
use borrow.Author.Tests.{eq-eqb}
use Rattle.ctl_meaning.specs.World as W
use Rattle.ctl_meaning.specs.Pools.{block_pool_at}
use Rattle.number_map.proofs.Changes.{get_here}
use Rattle.pool_store.specs.Entries.{BlockPool}
use Rattle.pool_store.specs.Store as S
use Rattle.pool_store.specs.Store.{Store}
use Rattle.ctl_storage.specs.declared.existing.Allocation.{Allocation}
use Rattle.ctl_storage.specs.declared.existing.Place.TheVariants.{InBlock}
use Rattle.ctl_storage.specs.declared.pools.PoolSize.{PoolSize}
use Rattle.ctl_storage.specs.Calls.{is_exhausted_at}
use Rattle.ctl_storage.specs.Inside.{AreStored}
use Rattle.owned_numbers.specs.Owned.{OwnsAs, Owned}
use Rattle.ctl_storage.specs.Storage.{ArePools, IsShown, Storage, size_of}
use Rattle.ctl_storage.proofs.Calls.{exhausted_of}
use Rattle.ctl_storage.proofs.InStore.{get_changed}
use Rattle.ctl_storage.proofs.Kept.{Sizes, kept_held, kept_taken}
use Rattle.ctl_storage.proofs.Seen.{Objects}

-- What is said of an answer --------------------------------------------------------------------------------

pub some_then : (P : Type 0) (Q : ℕ → Type 0) (r : Option ℕ) (a : ℕ) → r ≡ Some a → MatchOption r P Q → Q a
some_then P Q None a is h = absurd (cc)
some_then P Q (Some b) a is h = let same : b ≡ a = cc in subst Q same h

pub none_then : (P : Type 0) (Q : ℕ → Type 0) (r : Option ℕ) → r ≡ None → MatchOption r P Q → P
none_then P Q None is h = h
none_then P Q (Some b) is h = absurd (cc)

-- What is kept ---------------------------------------------------------------------------------------------

none_less : (n : ℕ) → nat_le 0 n ≡ true
none_less n = grind (arith, nat_tests)

-- the block that goes out is vacant
taken_fit : (s : Store) (n : ℕ) → IsSome (get s.blocks n) → S.is_fit_in n (s.given + 1) 0 (S.take_block n s) ≡ true
taken_fit s n stands =
    ap (λ o. option_map_or (S.is_fit (s.given + 1) 0) o false) (get_changed s.blocks n n (S.with_block_out (s.given + 1))) ∙ by (nat_eq n n) (eq-eqb n n refl) (get s.blocks n) stands
  where
    by : (b : Bool) → b ≡ true → (o : Option BlockPool) → IsSome o → option_map_or (S.is_fit (s.given + 1) 0) (cond b (option_map (S.with_block_out (s.given + 1)) o) o) false ≡ true
    by false is o i = absurd (cc)
    by true is None i = absurd (cc)
    by true is (Some b) i = ap (λ o. option_map_or is_none o false && nat_le 0 b.size) (get_here b.out (s.given + 1) None) ∙ none_less b.size

pub kept_served : (os : Objects) (zs : Sizes) (l m : Owned) (s : Store) (n p : ℕ) (a : Allocation) → get os n ≡ None → a.place ≡ InBlock (record { pool = p; address = s.given + 1 }) → IsSome (get s.blocks p) → OwnsAs true p n l m
    → AreStored os zs l s → AreStored (insert os n a) zs m (S.hold_block p (s.given + 1) n a.cells (S.take_block p s))
kept_served os zs l m s n p a none place stands located h =
    kept_held os zs l m (S.take_block p s) n 0 (record { pool = p; address = s.given + 1 }) a none place (taken_fit s p stands) located (kept_taken os zs l s p h)

-- What is answered -----------------------------------------------------------------------------------------

within : (few size most : ℕ) → few ≤ size → nat_le size most ≡ true → nat_lt most few ≡ nat_lt most size
within few size most less is =
    let one : nat_lt most few ≡ false = grind (arith, nat_tests, is) in
    let other : nat_lt most size ≡ false = grind (arith, nat_tests, is) in
    one ∙ sym other

beyond : (size most : ℕ) → nat_le size most ≡ false → nat_lt most size ≡ true
beyond size most is = grind (arith, nat_tests, is)

-- where blocks are as large as the size, a request of few cells is refused as one of that size
pub exhausted_within : (next n few size : ℕ) (x : W.Pools) (s : Storage) → few ≤ size → option_map_or (λ z. nat_le size z.block_size) (get s.sizes n) false ≡ true → IsSome (get s.blocks n) → ArePools next x s
    → exhausted_of n few s ≡ is_exhausted_at n size x
exhausted_within next n few size x s less large stands h = by (block_pool_at n x) (get s.blocks n) (sym (ap (λ o. option_map_or (λ (z : PoolSize). nat_le size z.block_size) o false) (h.sizes n)) ∙ large) stands (h.blocks n)
  where
    by : (o : Option W.BlockPool) (c : Option BlockPool) → option_map_or (λ (z : PoolSize). nat_le size z.block_size) (option_map size_of o) false ≡ true → IsSome c → IsShown s.objects o c
        → option_map_or (S.is_exhausted few) c false ≡ option_map_or (λ p. nat_eq p.free 0 || nat_lt p.block_size size) o false
    by o None is stands i = absurd (cc)
    by None (Some c) is stands i = absurd i
    by (Some p) (Some c) is stands i =
        ap (λ m. nat_eq m 0 || nat_lt c.size few) i.1.free ∙ (ap (λ m. nat_eq p.free 0 || nat_lt m few) i.1.size ∙ ap (λ b. nat_eq p.free 0 || b) (within few size p.block_size less is))

-- or they are smaller, and it is refused
pub exhausted_beyond : (next n size : ℕ) (x : W.Pools) (s : Storage) → option_map_or (λ z. nat_le size z.block_size) (get s.sizes n) false ≡ false → IsSome (get s.blocks n) → ArePools next x s → is_exhausted_at n size x ≡ true
exhausted_beyond next n size x s small stands h = by (block_pool_at n x) (get s.blocks n) (sym (ap (λ o. option_map_or (λ (z : PoolSize). nat_le size z.block_size) o false) (h.sizes n)) ∙ small) stands (h.blocks n)
  where
    always : (b : Bool) → (b || true) ≡ true
    always true = refl
    always false = refl

    by : (o : Option W.BlockPool) (c : Option BlockPool) → option_map_or (λ (z : PoolSize). nat_le size z.block_size) (option_map size_of o) false ≡ false → IsSome c → IsShown s.objects o c
        → option_map_or (λ p. nat_eq p.free 0 || nat_lt p.block_size size) o false ≡ true
    by o None is stands i = absurd (cc)
    by None (Some c) is stands i = absurd i
    by (Some p) (Some c) is stands i = ap (λ b. nat_eq p.free 0 || b) (beyond size p.block_size is) ∙ always (nat_eq p.free 0)
