-- Facts on the places of a region: which of them hold words, and what a run in the place of another changes.
use Rattle.std.proofs.Common.{◌≡◌, ℕ, zero, suc, ◌+◌, ◌-◌, ◌<◌, ◌≤◌, List, [], ◌∷◌, ◌++◌, length, take, drop, map, Option, None, Some, refl, sym, ap, subst, ◌∙◌, arith, set, IsSome, slice_range}
use mathlib.Core.Logic.{◌⊎◌, inl, inr, ⊎_elim}
use lib.ListN.{length-replicate}
use Rattle.std.proofs.lemmas.List.{ext_get_or}
pub use Rattle.core.proofs.str.Laws.{order}
pub use Rattle.core.proofs.slots.Runs.{run, spliced, unspliced, run_long, in_run, spliced_long, inside, outside}
use Rattle.raw_region.specs.Places.{Places, place, held, out, with_run, words_at, word_or_zero, AreHeld}

-- ---- single places

-- a place that holds a word holds the one that `word_or_zero` gives
pub the_word : (c : Option ℕ) → IsSome c → c ≡ Some (word_or_zero c)
the_word None h = let no : IsSome {T = ℕ} None = h in cc
the_word (Some x) h = refl

-- no place both holds a word and is out
pub held_not_out : (c : Option ℕ) → IsSome c → c ≡ None → ⊥
held_not_out c holds is_out = let no : IsSome {T = ℕ} None = subst IsSome is_out holds in cc

-- there is no place past the end
pub past_end : (ps : Places) (k : ℕ) → length ps ≤ k → place ps k ≡ None
past_end [] k past = refl
past_end (p ∷ ps) zero past = let no : suc (length ps) ≤ 0 = past in absurd (omega arith)
past_end (p ∷ ps) (suc k) past = let past' : suc (length ps) ≤ suc k = past in past_end ps k (omega arith)

-- so a place that holds a word is one of the places
pub one_within : (ps : Places) (i : ℕ) → IsSome (place ps i) → i < length ps
one_within ps i holds =
    ⊎_elim (λ (below : i < length ps). below)
    (λ (past : length ps ≤ i). absurd (held_not_out (place ps i) holds (past_end ps i past))) (order i (length ps))

-- ---- lists of words as places

pub length-held : (ws : List ℕ) → length (held ws) ≡ length ws
length-held [] = refl
length-held (w ∷ ws) = ap suc (length-held ws)

pub length-out : (n : ℕ) → length (out n) ≡ n
length-out n = length-replicate n None

pub held_some : (ws : List ℕ) (j : ℕ) → j < length ws → IsSome (place (held ws) j)
held_some [] j h = absurd (omega arith)
held_some (w ∷ ws) zero h = refl
held_some (w ∷ ws) (suc j) h = let h' : suc j < suc (length ws) = h in held_some ws j (omega arith)

-- places that all hold words are the list of their words
pub held_again : (cs : Places) → ((k : ℕ) → k < length cs → IsSome (place cs k)) → cs ≡ held (map word_or_zero cs)
held_again [] all = refl
held_again (None ∷ cs) all = absurd (held_not_out None (all 0 (let first : 0 < suc (length cs) = omega arith in first)) refl)
held_again (Some x ∷ cs) all =
    ap (λ (l : Places). Some x ∷ l) (held_again cs (λ k lt. all (suc k) (let next : suc k < suc (length cs) = omega arith in next)))

-- ---- runs of places that hold words

-- such a run lies within the region
pub held_within : (ps : Places) (start n : ℕ) → 0 < n → AreHeld ps start n → start + n ≤ length ps
held_within ps start n positive there =
    ⊎_elim (λ (short : length ps < start + n).
    let last = start + n - 1 in
    absurd (held_not_out (place ps last) (there last (omega arith) (omega arith)) (past_end ps last (omega arith))))
    (λ (fits : start + n ≤ length ps). fits) (order (length ps) (start + n))

-- such a run is the list of its words
pub run_is_words : (ps : Places) (start n : ℕ) → start + n ≤ length ps → AreHeld ps start n → slice_range ps start (start + n) ≡ held (words_at ps start n)
run_is_words ps start n fits there =
    let size : start + n - start ≡ n = omega arith in
    let long = run_long ps start n fits in
    subst (λ m. take m (drop start ps) ≡ held (map word_or_zero (take m (drop start ps)))) (sym size)
    (held_again (run ps start n) (λ k lt. subst IsSome (sym (in_run ps start n k None (omega arith))) (there (start + k) (omega arith) (omega arith))))

pub length-words_at : (ps : Places) (start n : ℕ) → start + n ≤ length ps → length (words_at ps start n) ≡ n
length-words_at ps start n fits =
    let size : start + n - start ≡ n = omega arith in
    as_many (slice_range ps start (start + n)) ∙ ap (λ m. length (take m (drop start ps))) size ∙ run_long ps start n fits
  where
    as_many : (cs : Places) → length (map word_or_zero cs) ≡ length cs
    as_many [] = refl
    as_many (c ∷ cs) = ap suc (as_many cs)

-- ---- a run in the place of another

pub length-with_run : (ps : Places) (start : ℕ) (qs : Places) → start + length qs ≤ length ps → length (with_run ps start qs) ≡ length ps
length-with_run ps start qs fits = spliced_long ps start (length qs) fits qs refl

pub with_run-inside : (ps : Places) (start : ℕ) (qs : Places) (k : ℕ) → start + length qs ≤ length ps → start ≤ k → k < start + length qs
    → place (with_run ps start qs) k ≡ place qs (k - start)
with_run-inside ps start qs k fits lo hi = inside ps start (length qs) fits qs refl k None lo hi

pub with_run-outside : (ps : Places) (start : ℕ) (qs : Places) (k : ℕ) → start + length qs ≤ length ps → (k < start) ⊎ (start + length qs ≤ k)
    → place (with_run ps start qs) k ≡ place ps k
with_run-outside ps start qs k fits off = outside ps start (length qs) fits qs refl k None off

-- where a run was put back, the places hold words
pub held_after : (ps : Places) (start : ℕ) (ws : List ℕ) → start + length ws ≤ length ps → AreHeld (with_run ps start (held ws)) start (length ws)
held_after ps start ws fits k lo hi =
    let long = length-held ws in
    subst IsSome (sym (with_run-inside ps start (held ws) k (omega arith) lo (omega arith))) (held_some ws (k - start) (omega arith))

-- a run over a run of the same places is the second alone
pub with_run-twice : (ps : Places) (start : ℕ) (qs rs : Places) → start + length qs ≤ length ps → length rs ≡ length qs
    → with_run (with_run ps start qs) start rs ≡ with_run ps start rs
with_run-twice ps start qs rs fits same =
    let first = with_run ps start qs in
    let long = length-with_run ps start qs fits in
    let alone : start + length rs ≤ length ps = omega arith in
    let over : start + length rs ≤ length first = omega arith in
    let both = length-with_run first start rs over in
    let one = length-with_run ps start rs alone in
    ext_get_or None (with_run first start rs) (with_run ps start rs) (both ∙ long ∙ sym one) (λ k lt.
    ⊎_elim
    (λ (before : k < start).
    with_run-outside first start rs k over (inl before) ∙ with_run-outside ps start qs k fits (inl before) ∙ sym (with_run-outside ps start rs k alone (inl before)))
    (λ (lo : start ≤ k). ⊎_elim
    (λ (hi : k < start + length rs). with_run-inside first start rs k over lo hi ∙ sym (with_run-inside ps start rs k alone lo hi))
    (λ (behind : start + length rs ≤ k).
    with_run-outside first start rs k over (inr behind) ∙ with_run-outside ps start qs k fits (inr (omega arith)) ∙ sym (with_run-outside ps start rs k alone (inr behind)))
    (order k (start + length rs)))
    (order k start))

-- a run of one place sets that place
pub with_run-one : (ps : Places) (i : ℕ) (c : Option ℕ) → i < length ps → with_run ps i (c ∷ []) ≡ set ps i c
with_run-one [] i c h = absurd (omega arith)
with_run-one (p ∷ ps) zero c h = refl
with_run-one (p ∷ ps) (suc i) c h =
    let h' : suc i < suc (length ps) = h in
    let next : suc (i + 1) ≡ suc i + 1 = omega arith in
    subst (λ m. (p ∷ take i ps) ++ (c ∷ drop m (p ∷ ps)) ≡ p ∷ set ps i c) next (ap (λ (l : Places). p ∷ l) (with_run-one ps i c (omega arith)))

-- to take one word out and put another back there sets that place
pub written_is_set : (ps : Places) (i w : ℕ) → i < length ps → with_run (with_run ps i (out 1)) i (held (w ∷ [])) ≡ set ps i (Some w)
written_is_set ps i w h =
    with_run-twice ps i (out 1) (held (w ∷ [])) (let fits : i + 1 ≤ length ps = omega arith in fits) refl ∙ with_run-one ps i (Some w) h

-- of one word, the first is all
pub set_one : (ws : List ℕ) (w : ℕ) → length ws ≡ 1 → set ws 0 w ≡ w ∷ []
set_one [] w one = let no : ◌≡◌ {A = ℕ} 0 1 = one in absurd (omega arith)
set_one (x ∷ []) w one = refl
set_one (x ∷ y ∷ ws) w one = let no : suc (suc (length ws)) ≡ 1 = one in absurd (omega arith)
