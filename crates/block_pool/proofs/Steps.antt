-- That a pool keeps its blocks at each of its calls. A block has w words, and `count` is how many blocks there are.
use Rattle.std.proofs.Common.{◌≡◌, ℕ, suc, ◌+◌, ◌*◌, ◌<◌, ◌≤◌, List, length, replicate, Some, sym, ap, subst, ◌∙◌, arith, set, IsSome}
use lib.ListN.{length-set, length-replicate}
use mathlib.Core.Logic.{⊎_elim}
use native.Mathlib.Nat.{suc-mul, mul-le-mul_right}
use Rattle.raw_region.specs.Places.{Region, Places, place, held, out, with_run, AreHeld, AreOut}
use Rattle.raw_region.proofs.PlaceLemmas.{order, run, length-held, length-out, held_within, length-with_run, held_after}
use Rattle.block_pool.specs.FreeList.{next_free, free_starts, IsApart, IsFreeList, held_count}
use Rattle.block_pool.specs.Pool.{Keeps}
use Rattle.block_pool.proofs.HeldCounts.{count-held, count-out, count_le, count_full, count-set, count-run, count_run_held, count_run_out}
use Rattle.block_pool.proofs.FreeListLemmas.{without_first, with_first, with_returned, starts_behind_link}

one_more : (n w : ℕ) → (n + 1) * w ≡ n * w + w
one_more n w = let same : n + 1 ≡ suc n = omega arith in ap (λ k. k * w) same ∙ suc-mul n w

-- what leaves room for one more block is fewer blocks
fewer : (n count w : ℕ) → 0 < w → n * w + w ≤ count * w → n < count
fewer n count w positive room =
    ⊎_elim (λ (lt : n < count). lt) (λ (ge : count ≤ n). let more = mul-le-mul_right w ge in absurd (omega arith)) (order n count)

-- ---- a block is taken
module _ (r : Region) (w count n h : ℕ) (keeps : Keeps r w count (n + 1) h) where
  abbrev before : Places
  before = r.places

  abbrev list : IsFreeList before w (suc n) h
  list = let same : n + 1 ≡ suc n = omega arith in subst (λ m. IsFreeList before w m h) same keeps.listed

  pub first_fits : h + w ≤ length before
  first_fits = held_within before h w (omega (arith, keeps.size.0)) list.0

  pub keeps_taken : (r' : Region) → r'.places ≡ with_run before h (out w) → Keeps r' w count n (next_free before h)
  keeps_taken r' after =
      let long = length-out w in
      let fits = first_fits in
      let counted = count-run before h (out w) in
      let was = ap (λ m. held_count (run before h m)) long ∙ count_run_held before h w fits list.0 in
      let gone = count-out w in
      let times = one_more n w in
      let left : held_count (with_run before h (out w)) ≡ n * w = omega (arith, keeps.held) in
      record {
        size = keeps.size;
        places = ap length after ∙ length-with_run before h (out w) (omega arith) ∙ keeps.places;
        held = ap held_count after ∙ left;
        listed = subst (λ ps. IsFreeList ps w n (next_free before h)) (sym after) (without_first before w n h (omega (arith, keeps.size.0)) fits list);
      }

-- ---- a block with the words ws comes back to the place s
module _ (r : Region) (w count n h s : ℕ) (ws : List ℕ) (keeps : Keeps r w count n h) (long : length ws ≡ w) (fits : s + length ws ≤ length r.places) (gone : AreOut r.places s (length ws)) where
  abbrev positive : 0 < w
  positive = omega (arith, keeps.size.0)

  abbrev back : Places
  back = with_run r.places s (held ws)

  back_count : held_count back ≡ n * w + w
  back_count =
      let counted = count-run r.places s (held ws) in
      let held_long = length-held ws in
      let was = ap (λ m. held_count (run r.places s m)) held_long ∙ count_run_out r.places s (length ws) fits gone in
      let more = count-held ws in
      omega (arith, keeps.held)

  back_long : length back ≡ count * w
  back_long = let held_long = length-held ws in length-with_run r.places s (held ws) (omega arith) ∙ keeps.places

  -- one block at least was out
  pub not_all_free : n < count
  not_all_free = let held_now = back_count in let all = back_long in let most = count_le back in fewer n count w positive (omega arith)

  pub returned_there : AreHeld back s w
  returned_there = subst (λ m. AreHeld back s m) long (held_after r.places s ws fits)

  pub keeps_given : (r' : Region) → r'.places ≡ set back s (Some h) → Keeps r' w count (n + 1) s
  keeps_given r' after =
      let same : suc n ≡ n + 1 = omega arith in
      let first = returned_there s (omega arith) (omega (arith, positive)) in
      let inside : s + w ≤ length r.places = omega arith in
      let list = with_returned r.places w n h s ws positive long inside (subst (λ m. AreOut r.places s m) long gone) keeps.listed in
      record {
        size = keeps.size;
        places = ap length after ∙ length-set back s (Some h) ∙ back_long;
        held = ap held_count after ∙ count-set back s h first ∙ back_count ∙ sym (one_more n w);
        listed = subst (λ ps. IsFreeList ps w (n + 1) s) (sym after) (subst (λ m. IsFreeList (set back s (Some h)) w m s) same list);
      }

-- ---- all blocks are free
pub all_back : (r : Region) (w count h : ℕ) → Keeps r w count count h → AreHeld r.places 0 (length r.places)
all_back r w count h keeps k lo hi = count_full r.places (keeps.held ∙ sym keeps.places) k (omega arith)

-- ---- the blocks of a new region are linked, one by one

-- the region holds all its words, and the first i blocks are a list, from the i-th back to the first
pub record Linking (r : Region) (w count i h : ℕ) : Type 0 where
  pub places : length r.places ≡ count * w
  pub full : held_count r.places ≡ count * w
  pub listed : IsFreeList r.places w i h
  pub apart : (s : ℕ) → i * w ≤ s → IsApart w s (free_starts r.places i h)

pub linking_new : (r : Region) (w count : ℕ) → r.places ≡ held (replicate (count * w) 0) → Linking r w count 0 0
linking_new r w count zeros =
    let n = count * w in
    let size = length-replicate n 0 in
    record {
      places = ap length zeros ∙ length-held (replicate n 0) ∙ size;
      full = ap held_count zeros ∙ count-held (replicate n 0) ∙ size;
      listed = tt;
      apart = λ s le. tt;
    }

module _ (r : Region) (w count i h : ℕ) (linking : Linking r w count i h) (positive : 0 < w) (less : i < count) where
  block_fits : i * w + w ≤ length r.places
  block_fits =
      let le : i + 1 ≤ count = omega arith in
      let most = mul-le-mul_right w le in
      let times = one_more i w in
      omega (arith, linking.places)

  pub first_word_held : IsSome (place r.places (i * w))
  first_word_held = let fits = block_fits in count_full r.places (linking.full ∙ sym linking.places) (i * w) (omega arith)

  pub linking_more : (r' : Region) → r'.places ≡ set r.places (i * w) (Some h) → Linking r' w count (i + 1) (i * w)
  linking_more r' after =
      let ps = r.places in
      let s = i * w in
      let qs = set ps s (Some h) in
      let fits = block_fits in
      let there : AreHeld ps s w = λ k lo hi. count_full ps (linking.full ∙ sym linking.places) k (omega arith) in
      let same : suc i ≡ i + 1 = omega arith in
      let apart = linking.apart s (omega arith) in
      record {
        places = ap length after ∙ length-set ps s (Some h) ∙ linking.places;
        full = ap held_count after ∙ count-set ps s h first_word_held ∙ linking.full;
        listed = subst (λ (l : Places). IsFreeList l w (i + 1) s) (sym after) (subst (λ m. IsFreeList qs w m s) same (with_first ps w i h s positive there apart linking.listed));
        apart = λ t le.
            let times = one_more i w in
            subst (λ (l : Places). IsApart w t (free_starts l (i + 1) s)) (sym after) (subst (λ m. IsApart w t (free_starts qs m s)) same
            ((λ m lo hi lo' hi'. let no : ⊥ = omega arith in no), subst (λ ks. IsApart w t ks) (sym (starts_behind_link ps w i h s positive (omega arith) apart)) (linking.apart t (omega arith))));
      }
