-- Blocks that follow each other, and subpools that do.
use Rattle.std.proofs.Common.{◌≡◌, ℕ, zero, suc, ◌+◌, ◌<◌, ◌≤◌, Bool, true, false, cond, List, [], ◌∷◌, ◌++◌, length, map, Some, refl, sym, ap, subst, ◌∙◌, arith, IsSome}
use Rattle.std.specs.Prelude.{nat_eq, slice_get, slice_set}
use Rattle.std.proofs.lemmas.Option.{same_Some}
use mathlib.Core.Logic.{inr, ⊎_elim}
use Rattle.raw_region.specs.Places.{Home, Places, Cut, held, with_run}
use Rattle.raw_region.proofs.PlaceLemmas.{order, length-held, held_after, length-with_run, with_run-outside}
use Rattle.mark_pool.specs.Marks.{Marks, with_back, size_of}
use Rattle.pool_area.specs.declared.lot.Lot.{Lot}
use Rattle.pool_area.specs.declared.subpool.Subpool.{Subpool}
use Rattle.pool_area.specs.Lots.{IsFilled, IsSameBlock}
use Rattle.pool_area.specs.Rows.{first_of, change_first, AreLots, end_of, AreStacked, rows_end, HeldFrom, IsBack}

-- Blocks --------------------------------------------------------------------

pub end_push : (at : ℕ) (ls : List Lot) (l : Lot) → end_of at (ls ++ l ∷ []) ≡ end_of at ls + length l.block.words
end_push at [] l = refl
end_push at (x ∷ ls) l = end_push (at + length x.block.words) ls l

pub lots_popped : (home : Home) (at : ℕ) (ls : List Lot) (l : Lot) → AreLots home at (ls ++ l ∷ []) → AreLots home at ls × (l.block.home ≡ home) × (l.block.start ≡ end_of at ls) × IsFilled l
lots_popped home at [] l h = (tt, h.0, h.1, h.2)
lots_popped home at (x ∷ ls) l h = let t = lots_popped home (at + length x.block.words) ls l h.3 in ((h.0, h.1, h.2, t.0), t.1, t.2, t.3)

pub lots_pushed : (home : Home) (at : ℕ) (ls : List Lot) (l : Lot) → AreLots home at ls → l.block.home ≡ home → l.block.start ≡ end_of at ls → IsFilled l → AreLots home at (ls ++ l ∷ [])
lots_pushed home at [] l h is follows filled = (is, follows, filled, tt)
lots_pushed home at (x ∷ ls) l h is follows filled = (h.0, h.1, h.2, lots_pushed home (at + length x.block.words) ls l h.3 is follows filled)

pub lots_set : (home : Home) (at : ℕ) (ls : List Lot) (i : ℕ) (old new : Lot) → slice_get ls i ≡ Some old → IsSameBlock old new → IsFilled new → AreLots home at ls
    → AreLots home at (slice_set ls i new) × (end_of at (slice_set ls i new) ≡ end_of at ls)
lots_set home at [] i old new e same filled h = absurd (cc)
lots_set home at (x ∷ ls) zero old new e same filled h =
    let was : x ≡ old = same_Some x old e in
    let long : length new.block.words ≡ length x.block.words = same.2 ∙ ap (λ (l : Lot). length l.block.words) (sym was) in (
      (
        same.0 ∙ ap (λ (l : Lot). l.block.home) (sym was) ∙ h.0,
        same.1 ∙ ap (λ (l : Lot). l.block.start) (sym was) ∙ h.1,
        filled,
        subst (λ m. AreLots home (at + m) ls) (sym long) h.3,
      ),
      ap (λ m. end_of (at + m) ls) long,
    )
lots_set home at (x ∷ ls) (suc i) old new e same filled h =
    let t = lots_set home (at + length x.block.words) ls i old new e same filled h.3 in ((h.0, h.1, h.2, t.0), t.1)

pub lots_filled : (home : Home) (at : ℕ) (ls : List Lot) (i : ℕ) (l : Lot) → AreLots home at ls → slice_get ls i ≡ Some l → IsFilled l
lots_filled home at [] i l h e = absurd (cc)
lots_filled home at (x ∷ ls) zero l h e = subst IsFilled (same_Some x l e) h.2
lots_filled home at (x ∷ ls) (suc i) l h e = lots_filled home (at + length x.block.words) ls i l h.3 e

-- the last block comes back: from its place on all words are in the region
pub held_back : (ps : Places) (b : Cut) (end : ℕ) → b.start + length b.words ≡ end → end ≤ length ps → HeldFrom end ps → HeldFrom b.start (with_run ps b.start (held b.words))
held_back ps b end ends fits rest k lo hi =
    let long = length-held b.words in
    let inside : b.start + length (held b.words) ≤ length ps = omega arith in
    let same = length-with_run ps b.start (held b.words) inside in
    ⊎_elim
    (λ (within : k < b.start + length b.words). held_after ps b.start b.words (omega arith) k lo within)
    (λ (behind : b.start + length b.words ≤ k). subst IsSome (sym (with_run-outside ps b.start (held b.words) k inside (inr (omega arith)))) (rest k (omega arith) (omega arith)))
    (order k (b.start + length b.words))

pub one_back : (old p q : Marks) (b : Cut) → b.start + length b.words ≤ size_of p → q ≡ with_back p b → IsBack old p → IsBack old q
one_back old p q b fits e back =
    let long = length-held b.words in
    let same = length-with_run p.places b.start (held b.words) (omega arith) in
    record {
      home = ap (λ m. m.home) e ∙ back.home;
      used = ap (λ m. m.used) e ∙ back.used;
      top = ap (λ m. m.top) e ∙ back.top;
      older = ap (λ m. m.older) e ∙ back.older;
      issued = ap (λ m. m.issued) e ∙ back.issued;
      size = ap (λ m. length m.places) e ∙ same ∙ back.size;
    }

-- Subpools ------------------------------------------------------------------

module _ {A : Type 0} where
  pub rows_end_push : (at : ℕ) (rs : List (Subpool A)) (r : Subpool A) → rows_end at (rs ++ r ∷ []) ≡ end_of (rows_end at rs) r.lots.items
  rows_end_push at [] r = refl
  rows_end_push at (x ∷ rs) r = rows_end_push (end_of at x.lots.items) rs r

  pub stack_popped : (home : Home) (at : ℕ) (rs : List (Subpool A)) (r : Subpool A) → AreStacked home at (rs ++ r ∷ [])
      → AreStacked home at rs × (r.start ≡ rows_end at rs) × AreLots home (rows_end at rs) r.lots.items
  stack_popped home at [] r h = (tt, h.0, h.1)
  stack_popped home at (x ∷ rs) r h = let t = stack_popped home (end_of at x.lots.items) rs r h.2 in ((h.0, h.1, t.0), t.1, t.2)

  pub stack_pushed : (home : Home) (at : ℕ) (rs : List (Subpool A)) (r : Subpool A) → AreStacked home at rs → r.start ≡ rows_end at rs → AreLots home (rows_end at rs) r.lots.items
      → AreStacked home at (rs ++ r ∷ [])
  stack_pushed home at [] r h begins lots = (begins, lots, tt)
  stack_pushed home at (x ∷ rs) r h begins lots = (h.0, h.1, stack_pushed home (end_of at x.lots.items) rs r h.2 begins lots)

  -- a subpool that stays in its place
  pub record StaysIn (home : Home) (old new : Subpool A) : Type 0 where
    pub start : new.start ≡ old.start
    pub lots : (at : ℕ) → AreLots home at old.lots.items → AreLots home at new.lots.items × (end_of at new.lots.items ≡ end_of at old.lots.items)

  pub stack_changed : (home : Home) (n : ℕ) (g : Subpool A → Subpool A) (at : ℕ) (rows : List (Subpool A)) → ((r : Subpool A) → first_of n rows ≡ Some r → StaysIn home r (g r)) → AreStacked home at rows
      → AreStacked home at (change_first n g rows) × (rows_end at (change_first n g rows) ≡ rows_end at rows)
  stack_changed home n g at [] stays h = (tt, refl)
  stack_changed home n g at (r ∷ rs) stays h = by (nat_eq r.number n) stays (λ keep. stack_changed home n g (end_of at r.lots.items) rs keep h.2)
    where
      by : (b : Bool) → ((x : Subpool A) → cond b (Some r) (first_of n rs) ≡ Some x → StaysIn home x (g x))
          → (((x : Subpool A) → first_of n rs ≡ Some x → StaysIn home x (g x))
          → AreStacked home (end_of at r.lots.items) (change_first n g rs) × (rows_end (end_of at r.lots.items) (change_first n g rs) ≡ rows_end (end_of at r.lots.items) rs))
          → AreStacked home at (cond b (g r ∷ rs) (r ∷ change_first n g rs)) × (rows_end at (cond b (g r ∷ rs) (r ∷ change_first n g rs)) ≡ rows_end at (r ∷ rs))
      by true keep more =
          let k = keep r refl in
          let t = k.lots at h.1 in
          ((k.start ∙ h.0, t.0, subst (λ m. AreStacked home m rs) (sym t.1) h.2), ap (λ m. rows_end m rs) t.1)
      by false keep more = let t = more keep in ((h.0, h.1, t.0), t.1)

  -- where the blocks of a subpool lie
  pub lots_within : (home : Home) (n : ℕ) (at : ℕ) (rows : List (Subpool A)) (r : Subpool A) → AreStacked home at rows → first_of n rows ≡ Some r → (m : ℕ) × AreLots home m r.lots.items
  lots_within home n at [] r h e = absurd (cc)
  lots_within home n at (x ∷ rs) r h e = by (nat_eq x.number n) e (λ is. lots_within home n (end_of at x.lots.items) rs r h.2 is)
    where
      by : (b : Bool) → cond b (Some x) (first_of n rs) ≡ Some r → (first_of n rs ≡ Some r → (m : ℕ) × AreLots home m r.lots.items) → (m : ℕ) × AreLots home m r.lots.items
      by true is more = (at, subst (λ (y : Subpool A). AreLots home at y.lots.items) (same_Some x r is) h.1)
      by false is more = more is

  pub starts_changed : (n : ℕ) (g : Subpool A → Subpool A) (rows : List (Subpool A)) → ((r : Subpool A) → first_of n rows ≡ Some r → (g r).start ≡ r.start)
      → map (λ (r : Subpool A). r.start) (change_first n g rows) ≡ map (λ (r : Subpool A). r.start) rows
  starts_changed n g [] same = refl
  starts_changed n g (r ∷ rs) same = by (nat_eq r.number n) same (λ keep. starts_changed n g rs keep)
    where
      by : (b : Bool) → ((x : Subpool A) → cond b (Some r) (first_of n rs) ≡ Some x → (g x).start ≡ x.start)
          → (((x : Subpool A) → first_of n rs ≡ Some x → (g x).start ≡ x.start) → map (λ (x : Subpool A). x.start) (change_first n g rs) ≡ map (λ (x : Subpool A). x.start) rs)
          → map (λ (x : Subpool A). x.start) (cond b (g r ∷ rs) (r ∷ change_first n g rs)) ≡ r.start ∷ map (λ (x : Subpool A). x.start) rs
      by true keep more = ap (λ s. s ∷ map (λ (x : Subpool A). x.start) rs) (keep r refl)
      by false keep more = ap (λ l. r.start ∷ l) (more keep)

  pub length-changed : (n : ℕ) (g : Subpool A → Subpool A) (rows : List (Subpool A)) → length (change_first n g rows) ≡ length rows
  length-changed n g [] = refl
  length-changed n g (r ∷ rs) = by (nat_eq r.number n) (length-changed n g rs)
    where
      by : (b : Bool) → length (change_first n g rs) ≡ length rs → length (cond b (g r ∷ rs) (r ∷ change_first n g rs)) ≡ suc (length rs)
      by true more = refl
      by false more = ap suc more
