-- What holds of each element of a table, as far as it has been looked through.
use Rattle.std.specs.Prelude.{slice_get, IsTrue}
use Rattle.std.proofs.Common.{◌≡◌, ◌↔◌, ℕ, ◌+◌, ◌<◌, ◌≤◌, List, length, get_or, Some, true, false, refl, sym, subst, arith}
use Rattle.std.proofs.lemmas.Bool.{cases_lt}
use Rattle.std.proofs.lemmas.Option.{slice_get-get_or, slice_get_within}
use mathlib.Core.Logic.{⊎_elim}

-- the element that is looked at, in the slice of the table
pub found : {X : Type 0} (ys xs : List X) (n : ℕ) (d : X) → ys ≡ xs → n < length ys → slice_get xs n ≡ Some (get_or ys n d)
found ys xs n d same lt = subst (λ zs. slice_get zs n ≡ Some (get_or ys n d)) same (slice_get-get_or ys n d lt)

pub one_more : {X : Type 0} (P : ℕ → X → Type 0) (xs : List X) (n : ℕ) (x : X) → slice_get xs n ≡ Some x → P n x
    → ((i : ℕ) (y : X) → i < n → slice_get xs i ≡ Some y → P i y) → (i : ℕ) (y : X) → i < n + 1 → slice_get xs i ≡ Some y → P i y
one_more P xs n x here holds before i y lt there =
    ⊎_elim (λ (less : i < n). before i y less there)
    (λ (ge : n ≤ i).
    let place : n ≡ i = omega arith in
    let same : x ≡ y = cc in
    subst (λ k. P k y) place (subst (λ z. P n z) same holds))
    (cases_lt i n)

-- as far as the end
pub each : {X : Type 0} (P : ℕ → X → Type 0) (ys xs : List X) (n : ℕ) → ys ≡ xs → length ys ≤ n → ((i : ℕ) (y : X) → i < n → slice_get xs i ≡ Some y → P i y)
    → IsTrue true ↔ ((i : ℕ) (y : X) → slice_get xs i ≡ Some y → P i y)
each P ys xs n same end before = (
  λ t i y there. let within = slice_get_within ys i y (subst (λ zs. slice_get zs i ≡ Some y) (sym same) there) in before i y (omega (arith, within)) there,
  λ h. refl,
)

-- one of which it does not hold
pub one_fails : {X : Type 0} (P : ℕ → X → Type 0) (xs : List X) (n : ℕ) (x : X) → slice_get xs n ≡ Some x → (P n x → IsTrue false)
    → IsTrue false ↔ ((i : ℕ) (y : X) → slice_get xs i ≡ Some y → P i y)
one_fails P xs n x here fails = (λ t. absurd (cc t), λ h. fails (h n x here))
