-- The pools of declared objects are dropped, one after another.
use Rattle.std.proofs.Common.{◌≡◌, ◌∙◌, ℕ, zero, suc, ◌<◌, List, [], ◌∷◌, Option, None, Bool, true, false, cond, refl, sym, ap, arith, length}
use Rattle.std.specs.Prelude.{nat_eq, not, ◌||◌, ◌&&◌, slice_index_or}
use borrow.Author.Tests.{eq-eqb, eqb-true}
use Rattle.ctl_meaning.specs.World as W
use Rattle.ctl_meaning.specs.Pools.{block_pool_at, keep_pools, opened_pools}
use Rattle.ctl_storage.specs.Storage.{ArePools, Storage}
use Rattle.ctl_storage.proofs.Shown.{pool_kept, pools_alike}
use Rattle.ctl_objects.specs.declared.declarations.Declaration.{Declaration}
use Rattle.ctl_objects.specs.Declarations.{has_number}
use Rattle.ctl_objects.specs.Pools.{DropsOnly}
use Rattle.ctl_objects.proofs.Found.{any_declaration}

or_true : (b : Bool) → (b || true) ≡ true
or_true true = refl
or_true false = refl

-- an object has its own number
pub has_own : (os : List Declaration) (i : ℕ) → i < length os → has_number (slice_index_or os i any_declaration).number os ≡ true
has_own [] i less = absurd (omega (arith, less))
has_own (o ∷ os) zero less = ap (λ b. b || has_number o.number os) (eq-eqb o.number o.number refl)
has_own (o ∷ os) (suc i) less =
    let n = (slice_index_or os i any_declaration).number in
    ap (λ b. nat_eq o.number n || b) (has_own os i (omega (arith, less))) ∙ or_true (nat_eq o.number n)

address_kept : (stays : ℕ → Bool) (x : W.Pools) → (keep_pools stays x).next_address ≡ x.next_address
unfolding opened_pools
address_kept stays x = refl

-- none is dropped
pub drops_none : (goes : ℕ → Bool) (next : ℕ) (x : W.Pools) (s : Storage) → ArePools next x s → DropsOnly goes next x s
drops_none goes next x s h = (all, λ n e. refl, pools_alike next x (keep_pools all x) s (λ k. pool_kept k all x) (address_kept all x) h)
  where
    all : ℕ → Bool
    all n = true

-- that of this number is dropped
pub drops_one : (n next : ℕ) (x : W.Pools) (s : Storage) → ArePools next (keep_pools (λ k. not (nat_eq k n)) x) s → DropsOnly (λ k. nat_eq k n) next x s
drops_one n next x s h = ((λ k. not (nat_eq k n)), (λ k e. ap not e), h)

pub drops_less : (p q : ℕ → Bool) (next : ℕ) (x : W.Pools) (s : Storage) → ((n : ℕ) → p n ≡ q n) → DropsOnly p next x s → DropsOnly q next x s
drops_less p q next x s same d = (d.0, λ n e. d.1 n (same n ∙ e), d.2)

-- and then one of them more
pub drops_more : (goes : ℕ → Bool) (n next : ℕ) (x : W.Pools) (s t : Storage) → goes n ≡ true → ((y : W.Pools) → ArePools next y s → DropsOnly (λ k. nat_eq k n) next y t) → DropsOnly goes next x s → DropsOnly goes next x t
drops_more goes n next x s t own drops before = (both, stay, pools_alike next (keep_pools last (keep_pools first x)) (keep_pools both x) t same (address_kept both x ∙ sym (address_kept last (keep_pools first x) ∙ address_kept first x)) more.2)
  where
    first : ℕ → Bool
    first = before.0

    more : DropsOnly (λ k. nat_eq k n) next (keep_pools first x) t
    more = drops (keep_pools first x) before.2

    last : ℕ → Bool
    last = more.0

    both : ℕ → Bool
    both k = first k && last k

    differs : (k : ℕ) (b : Bool) → nat_eq k n ≡ b → goes k ≡ false → b ≡ false
    differs k false is e = refl
    differs k true is e = let same = eqb-true k n is in let other : goes k ≡ true = ap goes same ∙ own in absurd (cc)

    stay : (k : ℕ) → goes k ≡ false → both k ≡ true
    stay k e = ap (λ b. b && last k) (before.1 k e) ∙ more.1 k (differs k (nat_eq k n) refl e)

    two : (a b : Bool) (o : Option W.BlockPool) → cond (a && b) o None ≡ cond b (cond a o None) None
    two true b o = refl
    two false true o = refl
    two false false o = refl

    same : (k : ℕ) → block_pool_at k (keep_pools both x) ≡ block_pool_at k (keep_pools last (keep_pools first x))
    same k = pool_kept k both x ∙ (two (first k) (last k) (block_pool_at k x) ∙ sym (pool_kept k last (keep_pools first x) ∙ ap (λ o. cond (last k) o None) (pool_kept k first x)))
