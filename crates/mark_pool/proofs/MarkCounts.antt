-- That each mark knows how many words before it are out, after each call of a pool.
use Rattle.std.proofs.Common.{◌≡◌, ℕ, ◌+◌, ◌-◌, ◌<◌, ◌≤◌, min, List, [], ◌∷◌, ◌++◌, map, length, drop, refl, sym, ap, ◌∙◌, arith}
use Rattle.std.specs.Prelude.{All, Some}
use Rattle.std.specs.List.{refill}
use Rattle.std.proofs.lemmas.List.{take_at, length-map}
use Rattle.std.proofs.lemmas.List.Elements.{All-nil, All-push, All-pop, All-map, All-weaker}
use mathlib.Core.Logic.{⊎_elim}
use Rattle.raw_region.specs.Places.{Places, held, out, with_run, AreHeld, AreOut}
use Rattle.raw_region.proofs.PlaceLemmas.{order}
use Rattle.mark_pool.specs.declared.pool.StandingMark.{StandingMark}
use Rattle.mark_pool.specs.Marks.{out_before, out_within, Counts, AreInOrder, IsCounted, IsWithin, back_at, seen_mark}
use Rattle.mark_pool.proofs.OutCounts.{out_split, none_within, held_within, none_out, out_taken, out_back}
use Rattle.mark_pool.proofs.Steps.{first_mark, all_below}

-- of a new pool no word is out
pub counts_new : (ps : Places) (size : ℕ) → AreHeld ps 0 size → Counts ps size 0 first_mark []
counts_new ps size there = record { whole = sym (none_out ps size there); top = refl; older = All-nil (IsCounted ps) }

-- all words that are out lie before a new mark
pub counts_marked : (ps : Places) (size used number count : ℕ) (top : StandingMark) (older : List StandingMark) → used ≤ size
    → AreHeld ps used (size - used) → Counts ps size count top older
    → Counts ps size count (record { number = number; start = used; out_below = count }) (older ++ top ∷ [])
counts_marked ps size used number count top older fits rest c =
    let parts = out_split ps used (size - used) size (omega arith) in
    let none = none_within ps used (size - used) rest in
    record {
      whole = c.whole;
      top = let all : count ≡ out_before ps used = omega (arith, c.whole) in all;
      older = All-push (IsCounted ps) older top c.older c.top;
    }

-- words that go out behind every mark change no mark's count
pub counts_taken : (ps qs : Places) (size used n count : ℕ) (top : StandingMark) (older : List StandingMark) → length ps ≡ size → used + n ≤ size
    → AreHeld ps used n → top.start ≤ used → AreInOrder 0 older top.start → qs ≡ with_run ps used (out n)
    → Counts ps size count top older → Counts qs size (count + n) top older
counts_taken ps qs size used n count top older long fits there top_fits in_order is c =
    let same = ap out_before is in
    let now : (k : ℕ) → out_before qs k ≡ out_before ps k + min n (k - used) = λ k. ap (λ f. f k) same ∙ out_taken ps size used n long fits there k in
    let before : (k : ℕ) → k ≤ used → out_before ps k ≡ out_before qs k = λ k le. let e = now k in omega arith in
    record {
      whole = let e = now size in omega (arith, c.whole);
      top = c.top ∙ before top.start top_fits;
      older = λ k d lt. c.older k d lt ∙ before _ (let low = all_below 0 top.start older in_order k d lt in omega arith);
    }

-- a Block comes back: each mark counts those of its words that lie before it
module _ (ps : Places) (size s : ℕ) (ws : List ℕ) (long : length ps ≡ size) (fits : s + length ws ≤ size) (gone : AreOut ps s (length ws)) where
  pub within : (m : StandingMark) → IsCounted ps m → IsWithin s (length ws) m
  within m is = let e = out_back ps size s ws long fits gone m.start in omega arith

  fewer : (m : StandingMark) → IsCounted ps m → IsCounted (with_run ps s (held ws)) (back_at s (length ws) m)
  fewer m is = let e = out_back ps size s ws long fits gone m.start in omega arith

  pub all_within : (older : List StandingMark) → All (IsCounted ps) older → All (IsWithin s (length ws)) older
  all_within older all = All-weaker (IsCounted ps) (IsWithin s (length ws)) within older all

  pub counts_back : (count : ℕ) (top : StandingMark) (older : List StandingMark) → Counts ps size count top older
      → Counts (with_run ps s (held ws)) size (count - length ws) (back_at s (length ws) top) (map (back_at s (length ws)) older)
  counts_back count top older c =
      record {
        whole = let e = out_back ps size s ws long fits gone size in omega (arith, c.whole);
        top = fewer top c.top;
        older = All-map (IsCounted (with_run ps s (held ws))) (back_at s (length ws)) older (All-weaker (IsCounted ps) _ fewer older c.older);
      }

-- the marks that are written through a slice are those that the vector then has
pub refilled : (old new : List StandingMark) (s n : ℕ) → new ≡ map (back_at s n) old → refill (length old) old new ≡ map (back_at s n) old
refilled old new s n is = take_at new (drop (length new) old) (length old) (ap length is ∙ length-map old (back_at s n)) ∙ is

-- a contract sees the marks as they were
pub seen_back : (s n : ℕ) (ms : List StandingMark) → map seen_mark (map (back_at s n) ms) ≡ map seen_mark ms
seen_back s n [] = refl
seen_back s n (m ∷ ms) = ap (λ rest. seen_mark m ∷ rest) (seen_back s n ms)

-- the newest mark is dropped
pub counts_dropped : (ps : Places) (size count : ℕ) (top m : StandingMark) (older front : List StandingMark) → older ≡ front ++ m ∷ []
    → Counts ps size count top older → Counts ps size count m front
counts_dropped ps size count top m older front is c =
    let parts = All-pop (IsCounted ps) older front (Some m) is c.older in
    record { whole = c.whole; top = parts.1; older = parts.0 }

-- what is out from the newest mark on is what that mark does not count
pub counts_since : (ps : Places) (size count : ℕ) (top : StandingMark) (older : List StandingMark) → top.start ≤ size → Counts ps size count top older
    → count ≡ top.out_below + out_within ps top.start (size - top.start)
counts_since ps size count top older fits c =
    let parts = out_split ps top.start (size - top.start) size (omega arith) in
    omega (arith, c.whole, c.top)

-- nothing is out from s on exactly where all up to what is used is held
module _ (ps : Places) (size used s : ℕ) (fits : used ≤ size) (low : s ≤ used) where
  pub back_since : out_within ps s (size - s) ≡ 0 → AreHeld ps s (used - s)
  back_since none k lo hi = held_within ps s (size - s) none k lo (omega arith)

  pub none_since : AreHeld ps used (size - used) → AreHeld ps s (used - s) → out_within ps s (size - s) ≡ 0
  none_since rest there =
      none_within ps s (size - s)
      (λ k lo hi. ⊎_elim (λ (below : k < used). there k lo (omega arith)) (λ (behind : used ≤ k). rest k behind (omega arith)) (order k used))
