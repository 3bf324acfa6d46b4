-- One of some components is chosen that stand side by side, or behind others.
use Rattle.std.proofs.Common.{◌≡◌, ℕ, zero, suc, ◌+◌, ◌-◌, ◌<◌, List, [], ◌∷◌, ◌++◌, Some, length, refl, sym, ap, ◌∙◌, arith}
use Rattle.std.proofs.lemmas.List.{length-append}
use Rattle.ctl_meaning.specs.Lists.{pull_item, pull_rest, opened_lists}
use Rattle.ctl_code.specs.declared.code.Begun.{Begun}
use Rattle.ctl_frames.specs.declared.frame.Apart.{Apart}
use Rattle.ctl_frames.specs.declared.frame.Left.{Left}
use Rattle.ctl_tree.specs.declared.request.Order.{Order}
use Rattle.ctl_tree.specs.declared.request.Order.TheVariants as OrderOf
use Rattle.ctl_frames.specs.Filling.{AreApart, AreLeft, IsChosen, IsChosenApart, pick_among}
use Rattle.ctl_frames.proofs.StillLeft.{count_left}

item_before : (d : Begun) (p : ℕ) (xs ys : List Begun) → p < length xs → pull_item d p (xs ++ ys) ≡ pull_item d p xs
unfolding opened_lists
item_before d p [] ys less = absurd (omega (arith, less))
item_before d zero (x ∷ xs) ys less = refl
item_before d (suc p) (x ∷ xs) ys less = item_before d p xs ys (omega (arith, less))

rest_before : (p : ℕ) (xs ys : List Begun) → p < length xs → pull_rest p (xs ++ ys) ≡ pull_rest p xs ++ ys
unfolding opened_lists
rest_before p [] ys less = absurd (omega (arith, less))
rest_before zero (x ∷ xs) ys less = refl
rest_before (suc p) (x ∷ xs) ys less = ap (λ (l : List Begun). x ∷ l) (rest_before p xs ys (omega (arith, less)))

item_behind : (d : Begun) (n p : ℕ) (xs ys : List Begun) → n ≡ length xs + p → pull_item d n (xs ++ ys) ≡ pull_item d p ys
unfolding opened_lists
item_behind d n p [] ys e = let same : n ≡ p = omega (arith, e) in ap (λ i. pull_item d i ys) same
item_behind d zero p (x ∷ xs) ys e = absurd (omega (arith, e))
item_behind d (suc n) p (x ∷ xs) ys e = item_behind d n p xs ys (omega (arith, e))

rest_behind : (n p : ℕ) (xs ys : List Begun) → n ≡ length xs + p → pull_rest n (xs ++ ys) ≡ xs ++ pull_rest p ys
unfolding opened_lists
rest_behind n p [] ys e = let same : n ≡ p = omega (arith, e) in ap (λ i. pull_rest i ys) same
rest_behind zero p (x ∷ xs) ys e = absurd (omega (arith, e))
rest_behind (suc n) p (x ∷ xs) ys e = ap (λ (l : List Begun). x ∷ l) (rest_behind n p xs ys (omega (arith, e)))

-- one of those that lie before the others
pub chosen_low : (all left : List Begun) (those : Apart) (pick at : ℕ) (rest : Left) → AreApart all those left → pick < those.low.last - those.low.first → ((low : List Begun) → AreLeft all those.low low → IsChosen all low pick at rest)
    → IsChosenApart all left pick at (record { low = rest; high = those.high })
chosen_low all left those pick at rest a less chosen =
    let c = chosen a.low a.below in
    let many : length a.low ≡ those.low.last - those.low.first = count_left all a.low those.low a.below in
    let within : pick < length a.low = omega (arith, less, many) in
    record {
      chosen = λ d. c.chosen d ∙ ap (λ (x : Begun). Some x) (sym (ap (λ (l : List Begun). pull_item d pick l) a.are ∙ item_before d pick a.low a.high within));
      rest = record { low = pull_rest pick a.low; high = a.high; below = c.rest; above = a.above; are = ap (λ (l : List Begun). pull_rest pick l) a.are ∙ rest_before pick a.low a.high within };
    }

-- one of the others
pub chosen_high : (all left : List Begun) (those : Apart) (before pick at : ℕ) (rest : Left) → AreApart all those left → before ≡ those.low.last - those.low.first → ((high : List Begun) → AreLeft all those.high high → IsChosen all high pick at rest)
    → IsChosenApart all left (before + pick) at (record { low = those.low; high = rest })
chosen_high all left those before pick at rest a first chosen =
    let c = chosen a.high a.above in
    let many : length a.low ≡ those.low.last - those.low.first = count_left all a.low those.low a.below in
    let same : before ≡ length a.low = omega (arith, first, many) in
    record {
      chosen = λ d. c.chosen d ∙ ap (λ (x : Begun). Some x) (sym (ap (λ (l : List Begun). pull_item d (before + pick) l) a.are ∙ item_behind d (before + pick) pick a.low a.high (omega (arith, same))));
      rest = record { low = a.low; high = pull_rest pick a.high; below = a.below; above = c.rest; are = ap (λ (l : List Begun). pull_rest (before + pick) l) a.are ∙ rest_behind (before + pick) pick a.low a.high (omega (arith, same)) };
    }

-- how many are left, side by side or apart
pub count_apart : (all left : List Begun) (those : Apart) → AreApart all those left → length left ≡ (those.low.last - those.low.first) + (those.high.last - those.high.first)
count_apart all left those a =
    ap (λ (l : List Begun). length l) a.are
    ∙ (length-append a.low a.high
    ∙ (ap (λ n. n + length a.high) (count_left all a.low those.low a.below)
    ∙ ap (λ n. (those.low.last - those.low.first) + n) (count_left all a.high those.high a.above)))

-- a pick is one of the candidates
pub picked_within : (order : Order) (n : ℕ) → 0 < n → pick_among order n < n
picked_within OrderOf.Newest n some = omega (arith, some)
picked_within OrderOf.Oldest n some = some
