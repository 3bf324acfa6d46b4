-- What each call of a storage says of the pools, by what it does to the fields.
use Rattle.std.proofs.Common.{◌≡◌, ◌∙◌, ℕ, ◌+◌, ◌*◌, ◌/◌, List, [], ◌∷◌, ◌++◌, Option, Some, None, Result, Ok, Err, Bool, true, false, cond, refl, sym, ap, arith, subst}
use Rattle.std.specs.Prelude.{is_some, nat_eq, not}
use Rattle.std.specs.Option.{option_map, option_map_or}
use Rattle.std.specs.Ordering.{nat_cmp}
use Rattle.std.specs.FinMap.{FinMap, empty, get, insert}
use Rattle.ctl_meaning.specs.World as W
use Rattle.ctl_meaning.specs.World.{Object}
use Rattle.ctl_meaning.specs.Lists.{keep}
use Rattle.ctl_meaning.specs.Objects.{change_in}
use Rattle.ctl_meaning.specs.Pools.{block_pool_at}
use Rattle.number_map.specs.Table.{change}
use Rattle.pool_store.specs.declared.fault.StoreFault.{StoreFault}
use Rattle.pool_store.specs.declared.fault.StoreFault.TheVariants.{BadAddress, Exhausted, Memory}
use Rattle.pool_store.specs.Entries.{BlockPool}
use Rattle.pool_store.specs.Store as S
use Rattle.ctl_storage.specs.declared.pools.Placing.{Placing}
use Rattle.ctl_storage.specs.declared.pools.Placing.TheVariants.{Placed, Refused}
use Rattle.ctl_storage.specs.declared.pools.Pool.{Pool}
use Rattle.ctl_storage.specs.declared.pools.PoolSize.{PoolSize}
use Rattle.ctl_storage.specs.Calls.{IsInState, OnPlaced, OnRefused, placing, pool_of, state_of}
use Rattle.ctl_storage.specs.Order.{Rise}
use Rattle.ctl_storage.specs.Storage.{ArePools, IsShown, KeepsPools, Storage, exists, size_of}
use Rattle.ctl_storage.proofs.Kept.{exists_changed, exists_left, exists_newest}
use Rattle.ctl_storage.proofs.Rising.{KeepsNumbers}
use Rattle.ctl_storage.proofs.Shown.{IsVacated, gone, still}

pub same_pools : (s t : Storage) → t ≡ s → KeepsPools s t
same_pools s t same next x h = subst (λ v. ArePools next x v) (sym same) h

pub changed_pools : (s t : Storage) (n : ℕ) (f : Object → Object) → KeepsNumbers f → t.objects ≡ change_in n f s.objects → t.sizes ≡ s.sizes → t.blocks ≡ s.blocks → t.given ≡ s.given → KeepsPools s t
changed_pools s t n f keeps objects sizes blocks given next x h =
    still next next x s t (omega arith) (λ m below. ap (λ (l : List Object). exists m l) objects ∙ exists_changed n f keeps m s.objects) sizes blocks given h

pub new_pools : (s t : Storage) (o : Object) → t.objects ≡ s.objects ++ o ∷ [] → t.sizes ≡ s.sizes → t.blocks ≡ s.blocks → t.given ≡ s.given → (x : W.Pools) → ArePools o.number x s → ArePools (o.number + 1) x t
new_pools s t o objects sizes blocks given x h =
    still o.number (o.number + 1) x s t (omega arith) (λ m below. ap (λ (l : List Object). exists m l) objects ∙ exists_newest s.objects o m below) sizes blocks given h

pub left_pools : (s t : Storage) (n : ℕ) → Rise 0 s.objects → t.objects ≡ keep (λ o. not (nat_eq o.number n)) s.objects → t.sizes ≡ s.sizes → t.given ≡ s.given → ((k : ℕ) → IsVacated n (get s.blocks k) (get t.blocks k)) → KeepsPools s t
left_pools s t n rise objects sizes given vacated next x h =
    gone next n x s t (λ m. ap (λ (l : List Object). exists m l) objects ∙ exists_left n m s.objects rise) sizes given vacated h

-- What is known of a pool ----------------------------------------------------------------------------------

pub pool_known : (next n : ℕ) (x : W.Pools) (s : Storage) (z : PoolSize) → get s.sizes n ≡ Some z → ArePools next x s
    → (let known : Option Pool = Some (record { size = z; state = state_of (is_some (get s.blocks n)) }) in known ≡ option_map pool_of (block_pool_at n x))
pool_known next n x s z there h = by (block_pool_at n x) (get s.blocks n) (sym there ∙ h.sizes n) (h.blocks n)
  where
    by : (o : Option W.BlockPool) (c : Option BlockPool) → Some z ≡ option_map size_of o → IsShown s.objects o c → (let known : Option Pool = Some (record { size = z; state = state_of (is_some c) }) in known ≡ option_map pool_of o)
    by None c e i = absurd (cc)
    by (Some p) None e i = at e ∙ ap (λ b. let known : Option Pool = Some (record { size = size_of p; state = state_of b }) in known) (sym i)
      where
        same : (a b : PoolSize) → Some a ≡ Some b → a ≡ b
        same a b e = cc

        at : Some z ≡ Some (size_of p) → (let known : Option Pool = Some (record { size = z; state = state_of false }) in known ≡ Some (record { size = size_of p; state = state_of false }))
        at e = ap (λ (a : PoolSize). let known : Option Pool = Some (record { size = a; state = state_of false }) in known) (same z (size_of p) e)
    by (Some p) (Some c) e i = at e ∙ ap (λ b. let known : Option Pool = Some (record { size = size_of p; state = state_of b }) in known) (sym i.0)
      where
        same : (a b : PoolSize) → Some a ≡ Some b → a ≡ b
        same a b e = cc

        at : Some z ≡ Some (size_of p) → (let known : Option Pool = Some (record { size = z; state = state_of true }) in known ≡ Some (record { size = size_of p; state = state_of true }))
        at e = ap (λ (a : PoolSize). let known : Option Pool = Some (record { size = a; state = state_of true }) in known) (same z (size_of p) e)

pub no_pool_known : (next n : ℕ) (x : W.Pools) (s : Storage) → get s.sizes n ≡ None → ArePools next x s → (let none : Option Pool = None in none ≡ option_map pool_of (block_pool_at n x))
no_pool_known next n x s none h = by (block_pool_at n x) (sym none ∙ h.sizes n)
  where
    by : (o : Option W.BlockPool) → None ≡ option_map size_of o → (let none : Option Pool = None in none ≡ option_map pool_of o)
    by None e = refl
    by (Some p) e = absurd (cc)

-- What a store refuses -------------------------------------------------------------------------------------

pub exhausted_is : (b : Bool) → Exhausted ≡ cond b Exhausted Memory → b ≡ true
exhausted_is true e = refl
exhausted_is false e = absurd (cc)

pub unfit_is : (b : Bool) → BadAddress ≡ cond b Memory BadAddress → b ≡ false
unfit_is true e = absurd (cc)
unfit_is false e = refl

pub accepted_is : (b : Bool) → (let r : Result (Unit {0}) StoreFault = Ok tt in r ≡ cond b (Ok tt) (Err BadAddress)) → b ≡ true
accepted_is true e = refl
accepted_is false e = absurd (cc)

pub refused_is : (b : Bool) (fault : StoreFault) → (let r : Result (Unit {0}) StoreFault = Err fault in r ≡ cond b (Ok tt) (Err BadAddress)) → b ≡ false
refused_is true fault e = absurd (cc)
refused_is false fault e = refl

-- some cells are as many words
pub words_of_cells : (cells : ℕ) → (8 * cells) / 8 ≡ cells
words_of_cells cells = omega arith

pub state_is : (b : Option BlockPool) → IsInState (state_of (is_some b)) b
state_is None = refl
state_is (Some b) = refl

abbrev pub exhausted_of : ℕ → ℕ → Storage → Bool
exhausted_of n size v = option_map_or (S.is_exhausted size) (get v.blocks n) false

abbrev pub vacant_of : ℕ → ℕ → Storage → Bool
vacant_of n a v = option_map_or (S.is_vacant a) (get v.blocks n) false

abbrev pub fit_of : ℕ → ℕ → ℕ → Storage → Bool
fit_of n a few v = option_map_or (S.is_fit a few) (get v.blocks n) false

abbrev pub held_blocks : ℕ → ℕ → ℕ → Storage → FinMap nat_cmp BlockPool
held_blocks n a number v = change n (S.with_holder a (Some number)) v.blocks

pub placed_is : (b : Bool) → Placed ≡ placing b → b ≡ true
placed_is true e = refl
placed_is false e = absurd (cc)

pub refused_fit : (b : Bool) → Refused ≡ placing b → b ≡ false
refused_fit true e = absurd (cc)
refused_fit false e = refl

abbrev pub opened_blocks : ℕ → PoolSize → Storage → FinMap nat_cmp BlockPool
opened_blocks n z v = insert v.blocks n (record { size = z.block_size; free = z.block_count; out = empty })

-- what is said of an object that was put into a block, and of one that was not
pub placed_then : (P : Type 0) (r : Placing) → r ≡ Placed → OnPlaced r P → P
placed_then P r is h = subst (λ z. OnPlaced z P) is h

pub refused_then : (P : Type 0) (r : Placing) → r ≡ Refused → OnRefused r P → P
refused_then P r is h = subst (λ z. OnRefused z P) is h

-- Fields that stay ---------------------------------------------------------------------------------------

made : List Object → FinMap nat_cmp PoolSize → FinMap nat_cmp BlockPool → ℕ → Storage
made os sizes blocks given = record { objects = os; sizes = sizes; blocks = blocks; given = given }

pub same_but_blocks : (s t : Storage) → t.sizes ≡ s.sizes → t.given ≡ s.given → t ≡ record s { objects = t.objects; blocks = t.blocks }
unfolding made
same_but_blocks s t sizes given = ap (λ z. made t.objects z t.blocks t.given) sizes ∙ ap (λ n. made t.objects s.sizes t.blocks n) given

pub same_but_objects : (s t : Storage) → t.sizes ≡ s.sizes → t.blocks ≡ s.blocks → t.given ≡ s.given → t ≡ record s { objects = t.objects }
unfolding made
same_but_objects s t sizes blocks given = same_but_blocks s t sizes given ∙ ap (λ b. made t.objects s.sizes b s.given) blocks
