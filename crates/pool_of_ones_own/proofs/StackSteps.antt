-- That what is not used stays in the region.
use Rattle.std.proofs.Common.{◌≡◌, ℕ, ◌+◌, ◌<◌, ◌≤◌, List, length, replicate, sym, ap, subst, ◌∙◌, arith, IsSome}
use lib.ListN.{length-replicate}
use mathlib.Core.Logic.{inr, ⊎_elim}
use Rattle.raw_region.specs.Places.{Region, Places, place, held, with_run}
use Rattle.raw_region.proofs.PlaceLemmas.{order, length-held, held_some, held_after, length-with_run, with_run-outside}
use Rattle.pool_of_ones_own.specs.Stack.{Keeps}

-- a new region holds all its words
pub keeps_new : (r : Region) (size : ℕ) → r.places ≡ held (replicate size 0) → Keeps r size 0
keeps_new r size zeros =
    let count : length (replicate {A = ℕ} size 0) ≡ size = length-replicate size 0 in
    record {
      places = ap length zeros ∙ length-held (replicate size 0) ∙ count;
      fits = omega arith;
      rest = λ k lo hi. subst (λ (qs : Places). IsSome (place qs k)) (sym zeros) (held_some (replicate size 0) k (omega arith));
    }

-- the last words that are used come back
pub keeps_back : (r r' : Region) (size used start : ℕ) (words : List ℕ) → Keeps r size used → start + length words ≡ used
    → r'.places ≡ with_run r.places start (held words) → Keeps r' size start
keeps_back r r' size used start words s top after =
    let ps = r.places in
    let qs = held words in
    let long = length-held words in
    let fits : start + length words ≤ length ps = omega (arith, s.places, s.fits) in
    let inside : start + length qs ≤ length ps = omega arith in
    record {
      places = ap length after ∙ length-with_run ps start qs inside ∙ s.places;
      fits = omega (arith, s.fits);
      rest = λ k lo hi.
          subst (λ (l : Places). IsSome (place l k)) (sym after)
          (⊎_elim (λ (within : k < start + length words). held_after ps start words fits k lo within)
          (λ (behind : start + length words ≤ k). subst IsSome (sym (with_run-outside ps start qs k inside (inr (omega arith)))) (s.rest k (omega arith) (omega (arith, s.fits))))
          (order k (start + length words)));
    }
