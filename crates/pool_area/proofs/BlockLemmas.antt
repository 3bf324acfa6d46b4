-- That a pool keeps its blocks at each of its calls.
use Rattle.std.proofs.Common.{◌≡◌, ℕ, ◌+◌, ◌-◌, ◌*◌, ◌<◌, ◌≤◌, Bool, true, false, cond, length, Option, Some, None, refl, sym, ap, subst, ◌∙◌, arith}
use Rattle.std.specs.Prelude.{nat_eq, IfSome}
use Rattle.std.specs.Ordering.{nat_cmp}
use Rattle.std.specs.FinMap.{FinMap, empty, get, insert, remove, get-empty}
use Rattle.number_map.proofs.Changes.{get_put, get_dropped}
use Rattle.block_pool.specs.Pool.{Pool, IsBlockOf, with_free}
use Rattle.pool_area.specs.declared.lot.Lot.{Lot}
use Rattle.pool_area.specs.Lots.{IsFilled, IsSameBlock}
use Rattle.pool_area.specs.Blocks.{Keeps}

-- a lot of the pool, with an object that fits
abbrev pub IsLotOf : Pool → Lot → Type 0
IsLotOf p lot = IsBlockOf p lot.block × IsFilled lot

abbrev Each : Pool → FinMap nat_cmp Lot → Type 0
Each p lots = (a : ℕ) → IfSome (get lots a) (IsLotOf p)

each_put : (p : Pool) (lots : FinMap nat_cmp Lot) (k : ℕ) (lot : Lot) → IsLotOf p lot → Each p lots → Each p (insert lots k lot)
each_put p lots k lot is each a = subst (λ o. IfSome o (IsLotOf p)) (sym (get_put lots k a lot)) (by (nat_eq a k))
  where
    by : (b : Bool) → IfSome (cond b (Some lot) (get lots a)) (IsLotOf p)
    by true = is
    by false = each a

each_drop : (p : Pool) (lots : FinMap nat_cmp Lot) (k : ℕ) → Each p lots → Each p (remove lots k)
each_drop p lots k each a = subst (λ o. IfSome o (IsLotOf p)) (sym (get_dropped lots k a)) (by (nat_eq a k))
  where
    by : (b : Bool) → IfSome (cond b None (get lots a)) (IsLotOf p)
    by true = tt
    by false = each a

pub keeps_new : (p : Pool) (size : ℕ) → p.free ≡ p.count → size ≤ p.block_words * 8 → Keeps p size empty 0
keeps_new p size all fits = record {
  each = λ a. subst (λ o. IfSome o (IsLotOf p)) (sym (get-empty nat_cmp a)) tt;
  total = omega arith;
  fits = fits;
}

pub keeps_out : (p q : Pool) (size n a : ℕ) (lots : FinMap nat_cmp Lot) (lot : Lot) → Keeps p size lots n → IsLotOf p lot
    → p.free ≡ q.free + 1 → q ≡ with_free p q.free → Keeps q size (insert lots a lot) (n + 1)
keeps_out p q size n a lots lot k is less same =
    let count : q.count ≡ p.count = ap (λ x. x.count) same in
    let words : q.block_words ≡ p.block_words = ap (λ x. x.block_words) same in
    record {
      each = subst (λ x. Each x (insert lots a lot)) (sym same) (each_put p lots a lot is k.each);
      total = omega (arith, k.total);
      fits = subst (λ w. size ≤ w * 8) (sym words) k.fits;
    }

pub keeps_back : (p q : Pool) (size n m a : ℕ) (lots : FinMap nat_cmp Lot) → Keeps p size lots n → m + 1 ≡ n → q ≡ with_free p (p.free + 1) → Keeps q size (remove lots a) m
keeps_back p q size n m a lots k one same =
    let count : q.count ≡ p.count = ap (λ x. x.count) same in
    let free : q.free ≡ p.free + 1 = ap (λ x. x.free) same in
    let words : q.block_words ≡ p.block_words = ap (λ x. x.block_words) same in
    record {
      each = subst (λ x. Each x (remove lots a)) (sym same) (each_drop p lots a k.each);
      total = omega (arith, k.total);
      fits = subst (λ w. size ≤ w * 8) (sym words) k.fits;
    }

pub keeps_changed : (p : Pool) (size n a : ℕ) (lots : FinMap nat_cmp Lot) (old new : Lot) → Keeps p size lots n → get lots a ≡ Some old → IsSameBlock old new → IsFilled new
    → Keeps p size (insert lots a new) n
keeps_changed p size n a lots old new k there same filled =
    let was : IsLotOf p old = subst (λ o. IfSome o (IsLotOf p)) there (k.each a) in
    record {
      each = each_put p lots a new ((same.0 ∙ was.0.0, same.2 ∙ was.0.1), filled) k.each;
      total = k.total;
      fits = k.fits;
    }

-- whatever the size of a request is
pub keeps_any : (p : Pool) (size n : ℕ) (lots : FinMap nat_cmp Lot) → Keeps p size lots n → Keeps p 0 lots n
keeps_any p size n lots k = record { each = k.each; total = k.total; fits = omega arith }

pub lot_of : (p : Pool) (size n a : ℕ) (lots : FinMap nat_cmp Lot) (lot : Lot) → Keeps p size lots n → get lots a ≡ Some lot → IsLotOf p lot
lot_of p size n a lots lot k there = subst (λ o. IfSome o (IsLotOf p)) there (k.each a)

-- no block is out, and all are free
pub keeps_none : (p : Pool) (size n m : ℕ) (lots left : FinMap nat_cmp Lot) → Keeps p size lots n → n ≡ 0 → left ≡ empty → m ≡ 0 → Keeps p size left m
keeps_none p size n m lots left k none gone zero =
    subst (λ t. Keeps p size t m) (sym gone) (subst (λ x. Keeps p size empty x) (sym zero) (keeps_new p size (omega (arith, k.total)) k.fits))
