-- Subpools by their numbers.
use Rattle.std.proofs.Common.{◌≡◌, ℕ, zero, suc, ◌<◌, false, cond, List, [], ◌∷◌, length, Option, Some, None, refl, sym, ap, subst, ◌∙◌, arith}
use Rattle.std.specs.Prelude.{nat_eq, slice_get, slice_set, MatchOption, option_and_then}
use Rattle.std.proofs.lemmas.Option.{same_Some}
use borrow.Author.Tests.{eq-eqb, ne_eqb}
use Rattle.pool_area.specs.declared.lot.Lot.{Lot}
use Rattle.pool_area.specs.declared.subpool.Subpool.{Subpool}
use Rattle.pool_area.specs.Lots.{Held, held_in, IsFilled, IsSameBlock}
use Rattle.pool_area.specs.Rows.{NoneHas, IsFirst, first_of, change_first, lot_of, with_lot, IsChanged, IsEdited}

module _ {A : Type 0} where
  -- what is said of the first of several is said of the first of the others
  pub first_tail : (n i : ℕ) (r : Subpool A) (rs : List (Subpool A)) → IsFirst n (suc i) (r ∷ rs) → IsFirst n i rs
  first_tail n i r rs f = let long : suc i < suc (length rs) = f.0 in (omega arith, f.1, λ k lt. f.2 (suc k) (omega arith))

  pub none_tail : (n : ℕ) (r : Subpool A) (rs : List (Subpool A)) → NoneHas n (r ∷ rs) → NoneHas n rs
  none_tail n r rs f k lt = f (suc k) (let more : suc k < suc (length rs) = omega arith in more)

  pub none_head : (n : ℕ) (r : Subpool A) (rs : List (Subpool A)) → NoneHas n (r ∷ rs) → nat_eq r.number n ≡ false
  none_head n r rs f = ne_eqb r.number n (f 0 (let some : 0 < suc (length rs) = omega arith in some))

  pub first_is : (n i : ℕ) (rows : List (Subpool A)) → IsFirst n i rows → first_of n rows ≡ slice_get rows i
  first_is n i [] f = let none : i < 0 = f.0 in absurd (omega arith)
  first_is n zero (r ∷ rs) f = ap (λ b. cond b (Some r) (first_of n rs)) (eq-eqb r.number n f.1)
  first_is n (suc i) (r ∷ rs) f =
      ap (λ b. cond b (Some r) (first_of n rs)) (ne_eqb r.number n (f.2 0 (omega arith))) ∙ first_is n i rs (first_tail n i r rs f)

  pub change_is : (n i : ℕ) (g : Subpool A → Subpool A) (rows : List (Subpool A)) (r : Subpool A) → IsFirst n i rows → slice_get rows i ≡ Some r → change_first n g rows ≡ slice_set rows i (g r)
  change_is n i g [] r f e = let none : i < 0 = f.0 in absurd (omega arith)
  change_is n zero g (x ∷ rs) r f e =
      ap (λ b. cond b (g x ∷ rs) (x ∷ change_first n g rs)) (eq-eqb x.number n f.1) ∙ ap (λ y. g y ∷ rs) (same_Some x r e)
  change_is n (suc i) g (x ∷ rs) r f e =
      ap (λ b. cond b (g x ∷ rs) (x ∷ change_first n g rs)) (ne_eqb x.number n (f.2 0 (omega arith))) ∙ ap (λ l. x ∷ l) (change_is n i g rs r (first_tail n i x rs f) e)

  pub none_is : (n : ℕ) (rows : List (Subpool A)) → NoneHas n rows → first_of n rows ≡ None
  none_is n [] f = refl
  none_is n (r ∷ rs) f = ap (λ b. cond b (Some r) (first_of n rs)) (none_head n r rs f) ∙ none_is n rs (none_tail n r rs f)

  -- a block of the subpool at a place
  pub lot_here : (n i index : ℕ) (rows : List (Subpool A)) (r : Subpool A) → IsFirst n i rows → slice_get rows i ≡ Some r → lot_of n index rows ≡ slice_get r.lots.items index
  lot_here n i index rows r f e = ap (option_and_then (λ x. slice_get x.lots.items index)) (first_is n i rows f ∙ e)

  pub no_lot_here : (n index : ℕ) (rows : List (Subpool A)) → NoneHas n rows → lot_of n index rows ≡ None
  no_lot_here n index rows f = ap (option_and_then (λ x. slice_get x.lots.items index)) (none_is n rows f)

  pub edited_here : (n i index : ℕ) (f : Option Held → Option Held) (old new : List (Subpool A)) (r : Subpool A) (lot next : Lot) → IsFirst n i old → slice_get old i ≡ Some r
      → slice_get r.lots.items index ≡ Some lot → IsSameBlock lot next → IsFilled next → held_in next ≡ f (held_in lot) → new ≡ slice_set old i (with_lot index next r) → IsEdited n index f old new
  edited_here n i index f old new r lot next first there at same filled holds e =
      subst (λ o. MatchOption o (new ≡ old) (λ l. IsChanged n index f l old new)) (sym (lot_here n i index old r first there ∙ at))
      (record { next = next; same = same; filled = filled; holds = holds; rows = e ∙ sym (change_is n i (with_lot index next) old r first there) })

  pub not_edited : (n index : ℕ) (f : Option Held → Option Held) (rows : List (Subpool A)) → lot_of n index rows ≡ None → IsEdited n index f rows rows
  not_edited n index f rows none = subst (λ o. MatchOption o (rows ≡ rows) (λ l. IsChanged n index f l rows rows)) (sym none) refl

  set_same : (rows : List (Subpool A)) (i : ℕ) (r : Subpool A) → slice_get rows i ≡ Some r → slice_set rows i r ≡ rows
  set_same [] i r e = refl
  set_same (x ∷ xs) zero r e = ap (λ y. y ∷ xs) (sym (same_Some x r e))
  set_same (x ∷ xs) (suc i) r e = ap (λ l. x ∷ l) (set_same xs i r e)

  -- where the subpool has no such block, nothing changes
  pub edited_missing : (n i index : ℕ) (f : Option Held → Option Held) (rows : List (Subpool A)) (r : Subpool A) → IsFirst n i rows → slice_get rows i ≡ Some r → slice_get r.lots.items index ≡ None
      → IsEdited n index f rows (slice_set rows i r)
  edited_missing n i index f rows r first there none =
      subst (λ l. IsEdited n index f rows l) (sym (set_same rows i r there)) (not_edited n index f rows (lot_here n i index rows r first there ∙ none))
