-- That the subpools of a pool stand as they should after each of its calls.
use Rattle.std.proofs.Common.{◌≡◌, ℕ, suc, ◌+◌, ◌<◌, ◌≤◌, List, [], ◌∷◌, ◌++◌, length, map, Option, Some, None, refl, sym, ap, subst, ◌∙◌, arith, IsSome, length-append}
use Rattle.std.proofs.lemmas.List.{map-append, length-map}
use mathlib.Core.Logic.{inr}
use Rattle.std.specs.Prelude.{slice_get, option_and_then, MatchOption, IfSome}
use Rattle.raw_region.specs.Places.{Home, out}
use Rattle.raw_region.proofs.PlaceLemmas.{length-out, length-with_run, with_run-outside}
use Rattle.mark_pool.specs.Marks.{Mark, Marks, with_taken, with_mark, IsDropped}
use Rattle.pool_area.specs.declared.lot.Lot.{Lot}
use Rattle.pool_area.specs.declared.subpool.Subpool.{Subpool}
use Rattle.pool_area.specs.Lots.{Held, IsFilled}
use Rattle.pool_area.specs.Rows.{first_of, change_first, lot_of, with_lot, IsChanged, IsEdited, AreFilled, AreLots, end_of, AreStacked, rows_end, HeldFrom, IsBack, IsFresh}
use Rattle.pool_area.specs.Subpools.{Stands}
use Rattle.pool_area.proofs.SubpoolViews.{lot_in_first}
use Rattle.pool_area.proofs.StackLemmas.{end_push, lots_pushed, lots_set, lots_filled, lots_within, rows_end_push, stack_popped, stack_pushed, StaysIn, stack_changed, starts_changed, length-changed}

abbrev start_of : Mark → ℕ
start_of m = m.start

heads : (a b : ℕ) (xs ys : List ℕ) → a ∷ xs ≡ b ∷ ys → a ≡ b
heads a b xs ys is = cc

tails : (a b : ℕ) (xs ys : List ℕ) → a ∷ xs ≡ b ∷ ys → xs ≡ ys
tails a b xs ys is = cc

-- lists that are as long before their last elements are equal in front of them, and these are
pub same_last : (xs ys : List ℕ) (x y : ℕ) → xs ++ x ∷ [] ≡ ys ++ y ∷ [] → (xs ≡ ys) × (x ≡ y)
same_last [] [] x y e = (refl, heads x y [] [] e)
same_last [] (z ∷ ys) x y e =
    let long : length (x ∷ []) ≡ length (z ∷ (ys ++ y ∷ [])) = ap length e in
    let more = length-append ys (y ∷ []) in
    let no : 1 ≡ suc (length (ys ++ y ∷ [])) = long in
    absurd (omega arith)
same_last (z ∷ xs) [] x y e =
    let long : length (z ∷ (xs ++ x ∷ [])) ≡ length (y ∷ []) = ap length e in
    let more = length-append xs (x ∷ []) in
    let no : suc (length (xs ++ x ∷ [])) ≡ 1 = long in
    absurd (omega arith)
same_last (z ∷ xs) (w ∷ ys) x y e =
    let t = same_last xs ys x y (tails z w (xs ++ x ∷ []) (ys ++ y ∷ []) e) in
    let h = heads z w (xs ++ x ∷ []) (ys ++ y ∷ []) e in
    (ap (λ l. z ∷ l) t.0 ∙ ap (λ n. n ∷ ys) h, t.1)

-- the blocks end no earlier than they begin
pub lots_end : (at : ℕ) (ls : List Lot) → at ≤ end_of at ls
lots_end at [] = omega arith
lots_end at (l ∷ ls) = let more = lots_end (at + length l.block.words) ls in omega arith

-- a block has room for its object
each_filled : (home : Home) (at index : ℕ) (ls : List Lot) → AreLots home at ls → IfSome (slice_get ls index) IsFilled
each_filled home at index ls h = by (slice_get ls index) refl
  where
    by : (o : Option Lot) → slice_get ls index ≡ o → IfSome o IsFilled
    by None e = tt
    by (Some l) e = lots_filled home at ls index l h e

abbrev mark_starts : List Mark → List ℕ
mark_starts ms = map (λ (m : Mark). m.start) ms

module _ {A : Type 0} where
  abbrev starts : List (Subpool A) → List ℕ
  starts rows = map (λ (r : Subpool A). r.start) rows

  -- a block is taken in the last subpool
  pub stands_taken : (p q : Marks) (size given room wide object words : ℕ) (front : List (Subpool A)) (r s : Subpool A) (lot : Lot) → Stands p size given room (front ++ r ∷ [])
      → p.used + words ≤ length p.places → q ≡ with_taken p words → IsFresh p object words lot → s.start ≡ r.start → s.lots.items ≡ r.lots.items ++ lot ∷ [] → 10 ≤ wide
      → Stands q size given wide (front ++ s ∷ [])
  stands_taken p q size given room wide object words front r s lot k fits e fresh start lots far =
      let below = stack_popped p.home 0 front r k.stacked in
      let end : end_of (rows_end 0 front) r.lots.items ≡ p.used = sym (rows_end_push 0 front r) ∙ sym k.used in
      let pushed = lots_pushed p.home (rows_end 0 front) r.lots.items lot below.2 fresh.home (fresh.start ∙ sym end) fresh.filled in
      let new_end : rows_end 0 (front ++ s ∷ []) ≡ p.used + words =
      rows_end_push 0 front s ∙ ap (end_of (rows_end 0 front)) lots ∙ end_push (rows_end 0 front) r.lots.items lot ∙ ap (λ m. m + length lot.block.words) end ∙ ap (λ m. p.used + m) fresh.long in
      let outs = length-out words in
      let inside : p.used + length (out words) ≤ length p.places = omega arith in
      let long = length-with_run p.places p.used (out words) inside in
      let one = length-append front (r ∷ []) in
      let other = length-append front (s ∷ []) in
      let moved : Stands (with_taken p words) size given wide (front ++ s ∷ []) =
      record {
        stacked = stack_pushed p.home 0 front s below.0 (start ∙ below.1) (subst (AreLots p.home (rows_end 0 front)) (sym lots) pushed);
        used = sym new_end;
        rest = λ i lo hi. subst IsSome (sym (with_run-outside p.places p.used (out words) i inside (inr (omega arith)))) (k.rest i (omega arith) (omega arith));
        fits = omega arith;
        size = long ∙ k.size;
        marks = map-append (λ (x : Subpool A). x.start) front (s ∷ []) ∙ ap (λ m. starts front ++ m ∷ []) start ∙ sym (map-append (λ (x : Subpool A). x.start) front (r ∷ [])) ∙ k.marks;
        issued = k.issued;
        few = omega (arith, k.few);
        room = far;
      } in
      subst (λ m. Stands m size given wide (front ++ s ∷ [])) (sym e) moved

  -- the same subpools, where only their record has changed
  pub stands_again : (p : Marks) (size given room wide : ℕ) (front : List (Subpool A)) (r s : Subpool A) → Stands p size given room (front ++ r ∷ []) → s.start ≡ r.start → s.lots.items ≡ r.lots.items → 10 ≤ wide
      → Stands p size given wide (front ++ s ∷ [])
  stands_again p size given room wide front r s k start lots far =
      let below = stack_popped p.home 0 front r k.stacked in
      let one = length-append front (r ∷ []) in
      let other = length-append front (s ∷ []) in
      record {
        stacked = stack_pushed p.home 0 front s below.0 (start ∙ below.1) (subst (AreLots p.home (rows_end 0 front)) (sym lots) below.2);
        used = k.used ∙ rows_end_push 0 front r ∙ ap (end_of (rows_end 0 front)) (sym lots) ∙ sym (rows_end_push 0 front s);
        rest = k.rest;
        fits = k.fits;
        size = k.size;
        marks = map-append (λ (x : Subpool A). x.start) front (s ∷ []) ∙ ap (λ m. starts front ++ m ∷ []) start ∙ sym (map-append (λ (x : Subpool A). x.start) front (r ∷ [])) ∙ k.marks;
        issued = k.issued;
        few = omega (arith, k.few);
        room = far;
      }

  -- a further subpool
  pub stands_marked : (p : Marks) (size given n room wide : ℕ) (rows : List (Subpool A)) (r : Subpool A) → Stands p size given room rows → given < n → r.start ≡ p.used → r.lots.items ≡ [] → length rows < 10 → 10 ≤ wide
      → Stands (with_mark p) size n wide (rows ++ r ∷ [])
  stands_marked p size given n room wide rows r k new start lots few far =
      let more = length-append rows (r ∷ []) in
      record {
        stacked = stack_pushed p.home 0 rows r k.stacked (start ∙ k.used) (subst (AreLots p.home (rows_end 0 rows)) (sym lots) tt);
        used = k.used ∙ sym (rows_end_push 0 rows r ∙ ap (end_of (rows_end 0 rows)) lots);
        rest = k.rest;
        fits = k.fits;
        size = k.size;
        marks = map-append (λ (x : Subpool A). x.start) rows (r ∷ []) ∙ ap (λ l. l ++ r.start ∷ []) k.marks ∙ ap (λ m. mark_starts (p.older ++ p.top ∷ []) ++ m ∷ []) start
            ∙ sym (map-append (λ (m : Mark). m.start) (p.older ++ p.top ∷ []) (record { number = p.issued; start = p.used } ∷ []));
        issued = omega (arith, k.issued);
        few = omega arith;
        room = far;
      }

  -- one subpool has changed, and stays in its place
  pub stands_changed : (p : Marks) (size given room wide n : ℕ) (g : Subpool A → Subpool A) (rows : List (Subpool A)) → Stands p size given room rows → ((r : Subpool A) → first_of n rows ≡ Some r → StaysIn p.home r (g r))
      → wide ≡ room → Stands p size given wide (change_first n g rows)
  stands_changed p size given room wide n g rows k stays same =
      let t = stack_changed p.home n g 0 rows stays k.stacked in
      record {
        stacked = t.0;
        used = k.used ∙ sym t.1;
        rest = k.rest;
        fits = k.fits;
        size = k.size;
        marks = starts_changed n g rows (λ r there. (stays r there).start) ∙ k.marks;
        issued = k.issued;
        few = subst (λ m. m ≤ 10) (sym (length-changed n g rows)) k.few;
        room = subst (λ m. 10 ≤ m) (sym same) k.room;
      }

  -- one block was edited
  pub stands_edited : (p : Marks) (size given room wide n index : ℕ) (f : Option Held → Option Held) (old new : List (Subpool A)) → Stands p size given room old → IsEdited n index f old new → wide ≡ room
      → Stands p size given wide new
  stands_edited p size given room wide n index f old new k edited same = by (lot_of n index old) refl edited
    where
      by : (o : Option Lot) → lot_of n index old ≡ o → MatchOption o (new ≡ old) (λ lot. IsChanged n index f lot old new) → Stands p size given wide new
      by None none unchanged = subst (λ m. Stands p size given m new) (sym same) (subst (Stands p size given room) (sym unchanged) k)
      by (Some lot) at changed =
          subst (Stands p size given wide) (sym changed.rows)
          (stands_changed p size given room wide n (with_lot index changed.next) old k (λ r there. record {
            start = refl;
            lots = λ m h. lots_set p.home m r.lots.items index lot changed.next (sym (lot_in_first n index old r there) ∙ at) changed.same changed.filled h;
          }) same)

  -- each block has room for its object
  pub all_filled : (home : Home) (rows : List (Subpool A)) → AreStacked home 0 rows → AreFilled rows
  all_filled home rows h n index = by (first_of n rows) refl
    where
      by : (o : Option (Subpool A)) → first_of n rows ≡ o → IfSome (option_and_then (λ r. slice_get r.lots.items index) o) IsFilled
      by None e = tt
      by (Some r) e = let w = lots_within home n 0 rows r h e in each_filled home w.0 index r.lots.items w.1

  -- The last subpool is dropped ---------------------------------------------

  module _ (p : Marks) (size given room : ℕ) (front : List (Subpool A)) (r : Subpool A) (k : Stands p size given room (front ++ r ∷ [])) where
    pub parts : AreStacked p.home 0 front × (r.start ≡ rows_end 0 front) × AreLots p.home (rows_end 0 front) r.lots.items
    parts = stack_popped p.home 0 front r k.stacked

    end_is : end_of r.start r.lots.items ≡ p.used
    end_is = ap (λ m. end_of m r.lots.items) parts.1 ∙ sym (rows_end_push 0 front r) ∙ sym k.used

    pub its_lots : AreLots p.home r.start r.lots.items
    its_lots = subst (λ m. AreLots p.home m r.lots.items) (sym parts.1) parts.2

    pub its_rest : HeldFrom (end_of r.start r.lots.items) p.places
    its_rest = subst (λ m. HeldFrom m p.places) (sym end_is) k.rest

    pub its_end_fits : end_of r.start r.lots.items ≤ length p.places
    its_end_fits = subst (λ m. m ≤ length p.places) (sym end_is) k.fits

    both_starts : (starts front ≡ mark_starts p.older) × (r.start ≡ p.top.start)
    both_starts = same_last (starts front) (mark_starts p.older) r.start p.top.start
        (sym (map-append (λ (x : Subpool A). x.start) front (r ∷ [])) ∙ k.marks ∙ map-append (λ (m : Mark). m.start) p.older (p.top ∷ []))

    as_many : length front ≡ length p.older
    as_many = sym (length-map front (λ (x : Subpool A). x.start)) ∙ ap length both_starts.0 ∙ length-map p.older (λ (m : Mark). m.start)

    module _ (q : Marks) (back : IsBack p q) (free : HeldFrom r.start q.places) where
      top_start : q.top.start ≡ r.start
      top_start = ap start_of back.top ∙ sym both_starts.1

      module _ (t : Marks) (n : ℕ) (new : given < n) (used : t.used ≡ q.top.start) (home : t.home ≡ q.home) (places : t.places ≡ q.places) where
        long_as : length t.places ≡ length p.places
        long_as = ap length places ∙ back.size

        rest_after : HeldFrom t.used t.places
        rest_after = subst (λ m. HeldFrom m t.places) (sym (used ∙ top_start)) (subst (HeldFrom r.start) (sym places) free)

        used_after : t.used ≡ rows_end 0 front
        used_after = used ∙ top_start ∙ parts.1

        pub its_start : t.used ≡ r.start
        its_start = used ∙ top_start

        fits_after : t.used ≤ length t.places
        fits_after =
            let same = its_start in
            let long = long_as in
            let within = lots_end r.start r.lots.items in
            let fits = its_end_fits in
            omega arith

        -- one of several is gone
        pub stands_dropped : ((0 < length q.older) → IsDropped q t) → 0 < length front → Stands t size given room front
        stands_dropped other some =
            let count = as_many in
            let same = ap length back.older in
            let d = other (omega arith) in
            let one = length-append front (r ∷ []) in
            record {
              stacked = subst (λ h. AreStacked h 0 front) (sym (home ∙ back.home)) parts.0;
              used = used_after;
              rest = rest_after;
              fits = fits_after;
              size = long_as ∙ k.size;
              marks = both_starts.0 ∙ ap mark_starts (sym back.older ∙ d.older);
              issued = let issued = d.issued in let was = back.issued in omega (arith, k.issued);
              few = omega (arith, k.few);
              room = k.room;
            }
