-- How many places are out, and what a run of places that go out or come back does to it.
use Rattle.std.proofs.Common.{◌≡◌, ℕ, zero, suc, ◌+◌, ◌-◌, ◌<◌, ◌≤◌, min, List, length, Option, Some, None, refl, sym, ap, subst, ◌∙◌, arith, IsSome, IsTrue, eqb}
use lib.ListN.{get_or-replicate}
use borrow.Author.Tests.{eqb-true, eq-eqb}
use mathlib.Core.Logic.{◌⊎◌, inl, inr, ⊎_elim}
use Rattle.raw_region.specs.Places.{Places, place, held, out, with_run, AreHeld, AreOut}
use Rattle.raw_region.proofs.PlaceLemmas.{order, length-held, length-out, held_not_out, held_after, with_run-inside, with_run-outside}
use Rattle.mark_pool.specs.Marks.{out_at, out_before, out_within}

held_at : (o : Option ℕ) → IsSome o → out_at o ≡ 0
held_at None there = absurd (held_not_out None there refl)
held_at (Some x) there = refl

one_held : (o : Option ℕ) → out_at o ≡ 0 → IsSome o
one_held None e = absurd (omega arith)
one_held (Some x) e = refl

one_at_most : (o : Option ℕ) → out_at o ≤ 1
one_at_most None = omega arith
one_at_most (Some x) = omega arith

pub out_le : (ps : Places) (k : ℕ) → out_before ps k ≤ k
out_le ps zero = omega arith
out_le ps (suc k) = let rest = out_le ps k in let one = one_at_most (place ps k) in omega arith

-- what is out before k is out before s, or among the n places from there on
pub out_split : (ps : Places) (s n k : ℕ) → k ≡ s + n → out_before ps k ≡ out_before ps s + out_within ps s n
out_split ps s zero k e = let same = ap (out_before ps) (let at : k ≡ s = omega arith in at) in omega arith
out_split ps s (suc n) zero e = absurd (omega arith)
out_split ps s (suc n) (suc k) e =
    let rest = out_split ps s n k (omega arith) in
    let here = ap (λ j. out_at (place ps j)) (let at : k ≡ s + n = omega arith in at) in
    omega arith

pub none_within : (ps : Places) (s n : ℕ) → AreHeld ps s n → out_within ps s n ≡ 0
none_within ps s zero there = refl
none_within ps s (suc n) there =
    let rest = none_within ps s n (λ i lo hi. there i lo (omega arith)) in
    let here = held_at (place ps (s + n)) (there (s + n) (omega arith) (omega arith)) in
    omega arith

pub held_within : (ps : Places) (s n : ℕ) → out_within ps s n ≡ 0 → AreHeld ps s n
held_within ps s zero e i lo hi = absurd (omega arith)
held_within ps s (suc n) e i lo hi =
    let e' : out_within ps s n + out_at (place ps (s + n)) ≡ 0 = e in
    ⊎_elim (λ (lt : i < s + n). held_within ps s n (omega arith) i lo lt)
    (λ (ge : s + n ≤ i). let same : s + n ≡ i = omega arith in subst (λ j. IsSome (place ps j)) same (one_held (place ps (s + n)) (omega arith)))
    (order i (s + n))

pub none_out : (ps : Places) (k : ℕ) → AreHeld ps 0 k → out_before ps k ≡ 0
none_out ps k there = let all = out_split ps 0 k k (omega arith) in let none = none_within ps 0 k there in omega arith

pub all_held : (ps : Places) (k : ℕ) → out_before ps k ≡ 0 → AreHeld ps 0 k
all_held ps k e = let all = out_split ps 0 k k (omega arith) in held_within ps 0 k (omega arith)

-- the n places from s on are held in ps and out in qs, and all others are the same
module _ (ps qs : Places) (s n : ℕ) (there : AreHeld ps s n) (gone : AreOut qs s n) (same : (i : ℕ) → (i < s) ⊎ (s + n ≤ i) → place qs i ≡ place ps i) where
  pub out_more : (k : ℕ) → out_before qs k ≡ out_before ps k + min n (k - s)
  out_more zero = omega arith
  out_more (suc k) =
      let rest = out_more k in
      ⊎_elim (λ (below : k < s). let e = ap out_at (same k (inl below)) in omega arith)
      (λ (from : s ≤ k). ⊎_elim
      (λ (within : k < s + n). let was = held_at (place ps k) (there k from within) in let now = ap out_at (gone k from within) in omega arith)
      (λ (behind : s + n ≤ k). let e = ap out_at (same k (inr behind)) in omega arith)
      (order k (s + n)))
      (order k s)

-- a run of words goes out: of the first k places, as many more are out as lie in it
pub out_taken : (ps : Places) (size s n : ℕ) → length ps ≡ size → s + n ≤ size → AreHeld ps s n → (k : ℕ)
    → out_before (with_run ps s (out n)) k ≡ out_before ps k + min n (k - s)
out_taken ps size s n long fits there =
    let count = length-out n in
    let gone : AreOut (with_run ps s (out n)) s n = λ k lo hi.
    with_run-inside ps s (out n) k (omega arith) lo (omega arith) ∙ get_or-replicate n (k - s) None None (omega arith) in
    out_more ps (with_run ps s (out n)) s n there gone
    (λ k off. with_run-outside ps s (out n) k (omega arith) (⊎_elim (λ (below : k < s). inl below) (λ (behind : s + n ≤ k). inr (omega arith)) off))

-- a Block comes back: of the first k places, as many fewer are out as lie in it
pub out_back : (ps : Places) (size s : ℕ) (ws : List ℕ) → length ps ≡ size → s + length ws ≤ size → AreOut ps s (length ws) → (k : ℕ)
    → out_before ps k ≡ out_before (with_run ps s (held ws)) k + min (length ws) (k - s)
out_back ps size s ws long fits gone =
    let count = length-held ws in
    out_more (with_run ps s (held ws)) ps s (length ws) (held_after ps s ws (omega arith)) gone
    (λ k off. sym (with_run-outside ps s (held ws) k (omega arith) (⊎_elim (λ (below : k < s). inl below) (λ (behind : s + length ws ≤ k). inr (omega arith)) off)))

-- no word is out exactly where each place is held
pub whole_held : (ps : Places) (size count : ℕ) → length ps ≡ size → count ≡ out_before ps size → IsTrue (eqb count 0) → AreHeld ps 0 (length ps)
whole_held ps size count long is test k lo hi =
    let none : count ≡ 0 = eqb-true count 0 test in
    all_held ps size (omega arith) k lo (omega arith)

pub held_whole : (ps : Places) (size count : ℕ) → length ps ≡ size → count ≡ out_before ps size → AreHeld ps 0 (length ps) → IsTrue (eqb count 0)
held_whole ps size count long is there =
    let none = none_out ps size (λ k lo hi. there k lo (omega arith)) in
    eq-eqb count 0 (omega arith)
