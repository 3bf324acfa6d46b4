-- How many places hold words.
use Rattle.std.proofs.Common.{◌≡◌, ℕ, zero, suc, ◌+◌, ◌-◌, ◌<◌, ◌≤◌, List, [], ◌∷◌, ◌++◌, length, take, drop, None, Some, refl, sym, ap, ◌∙◌, arith, set, IsSome}
use Rattle.std.proofs.lemmas.List.{ext_get_or}
use lib.ListN.{get_or-replicate}
use Rattle.raw_region.specs.Places.{Places, place, held, out, with_run, words_at, AreHeld, AreOut}
use Rattle.raw_region.proofs.PlaceLemmas.{run, unspliced, run_long, in_run, length-out, held_not_out, run_is_words, length-words_at}
use Rattle.block_pool.specs.FreeList.{held_count}

pub count-append : (ps qs : Places) → held_count (ps ++ qs) ≡ held_count ps + held_count qs
count-append [] qs = omega arith
count-append (None ∷ ps) qs = count-append ps qs
count-append (Some x ∷ ps) qs = let rest = count-append ps qs in omega arith

pub count-out : (n : ℕ) → held_count (out n) ≡ 0
count-out zero = refl
count-out (suc n) = count-out n

pub count-held : (ws : List ℕ) → held_count (held ws) ≡ length ws
count-held [] = refl
count-held (w ∷ ws) = let rest = count-held ws in omega arith

pub count_le : (ps : Places) → held_count ps ≤ length ps
count_le [] = omega arith
count_le (None ∷ ps) = let rest = count_le ps in let more : held_count ps ≤ suc (length ps) = omega arith in more
count_le (Some x ∷ ps) = let rest = count_le ps in let more : held_count ps + 1 ≤ suc (length ps) = omega arith in more

-- where as many places hold words as there are, each does
pub count_full : (ps : Places) → held_count ps ≡ length ps → (k : ℕ) → k < length ps → IsSome (place ps k)
count_full [] full k lt = absurd (omega arith)
count_full (None ∷ ps) full k lt = let full' : held_count ps ≡ suc (length ps) = full in let most = count_le ps in absurd (omega arith)
count_full (Some x ∷ ps) full zero lt = refl
count_full (Some x ∷ ps) full (suc k) lt =
    let full' : held_count ps + 1 ≡ suc (length ps) = full in
    let lt' : suc k < suc (length ps) = lt in
    count_full ps (omega arith) k (omega arith)

-- a word over a word changes no count
pub count-set : (ps : Places) (i w : ℕ) → IsSome (place ps i) → held_count (set ps i (Some w)) ≡ held_count ps
count-set [] i w holds = refl
count-set (None ∷ ps) zero w holds = absurd (held_not_out None holds refl)
count-set (Some x ∷ ps) zero w holds = refl
count-set (None ∷ ps) (suc i) w holds = count-set ps i w holds
count-set (Some x ∷ ps) (suc i) w holds = ap (λ n. n + 1) (count-set ps i w holds)

-- a run in the place of another: the one comes to the count, the other goes from it
pub count-run : (ps : Places) (start : ℕ) (qs : Places) → held_count (with_run ps start qs) + held_count (run ps start (length qs)) ≡ held_count ps + held_count qs
count-run ps start qs =
    let n = length qs in
    let front = take start ps in
    let back = drop (start + n) ps in
    let new = count-append front (qs ++ back) in
    let new_run = count-append qs back in
    let old = count-append front (run ps start n ++ back) in
    let old_run = count-append (run ps start n) back in
    let same = ap held_count (unspliced ps start n) in
    omega arith

pub count_run_held : (ps : Places) (start n : ℕ) → start + n ≤ length ps → AreHeld ps start n → held_count (run ps start n) ≡ n
count_run_held ps start n fits there =
    let size : start + n - start ≡ n = omega arith in
    ap (λ m. held_count (take m (drop start ps))) (sym size) ∙ ap held_count (run_is_words ps start n fits there) ∙ count-held (words_at ps start n)
    ∙ length-words_at ps start n fits

pub count_run_out : (ps : Places) (start n : ℕ) → start + n ≤ length ps → AreOut ps start n → held_count (run ps start n) ≡ 0
count_run_out ps start n fits gone =
    let long = run_long ps start n fits in
    ap held_count (ext_get_or None (run ps start n) (out n) (long ∙ sym (length-out n)) (λ k lt.
    in_run ps start n k None (omega arith) ∙ gone (start + k) (omega arith) (omega arith) ∙ sym (get_or-replicate n k None None (omega arith))))
    ∙ count-out n
