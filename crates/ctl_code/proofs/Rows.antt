-- A list of rows of numbers of which one number is written.
use Rattle.std.proofs.Common.{◌≡◌, ℕ, zero, suc, ◌<◌, List, [], ◌∷◌, length, Option, Some, Bool, true, false, get_or, refl, sym, ap, ◌∙◌, arith}
use Rattle.std.specs.Prelude.{◌&&◌, if◌then◌else◌, nat_eq, slice_get, slice_set}
use Rattle.std.proofs.lemmas.Bool.{eq-eqb, eqb-true}
use Rattle.std.proofs.lemmas.Option.{slice_get-get_or}
use Rattle.ctl_code.specs.Windows.{count_in, count_of, row_in}

set_here : {X : Type 0} (xs : List X) (n : ℕ) (x : X) → n < length xs → slice_get (slice_set xs n x) n ≡ Some x
set_here [] n x lt = absurd (omega (arith, lt))
set_here (y ∷ ys) zero x lt = refl
set_here (y ∷ ys) (suc n) x lt = set_here ys n x (omega (arith, lt))

set_elsewhere : {X : Type 0} (xs : List X) (n m : ℕ) (x : X) → (m ≡ n → ⊥) → slice_get (slice_set xs n x) m ≡ slice_get xs m
set_elsewhere [] n m x other = refl
set_elsewhere (y ∷ ys) zero zero x other = absurd (other refl)
set_elsewhere (y ∷ ys) zero (suc m) x other = refl
set_elsewhere (y ∷ ys) (suc n) zero x other = refl
set_elsewhere (y ∷ ys) (suc n) (suc m) x other = set_elsewhere ys n m x (λ e. other (ap suc e))

pub row_set : (rows before : List (List ℕ)) (number level slots : ℕ) (row new : List ℕ) → number < length rows → row ≡ get_or rows number row
    → ((other : ℕ) → row_in (slice_get rows other) ≡ row_in (slice_get before other))
    → ((other : ℕ) → count_of (slice_get new other) ≡ (if nat_eq other level then slots else count_of (slice_get row other)))
    → (of other : ℕ) → count_in (slice_set rows number new) of other ≡ (if nat_eq of number && nat_eq other level then slots else count_in before of other)
row_set rows before number level slots row new there at same wrote of other = by (nat_eq of number) refl
  where
    by : (b : Bool) → nat_eq of number ≡ b → count_in (slice_set rows number new) of other ≡ (if b && nat_eq other level then slots else count_in before of other)
    by true e =
        let here = eqb-true of number e in
        let found : slice_get rows number ≡ Some row = slice_get-get_or rows number row there ∙ ap Some (sym at) in
        let was : row ≡ row_in (slice_get before of) = sym (ap row_in (ap (slice_get rows) here ∙ found)) ∙ same of in
        let is : slice_get (slice_set rows number new) of ≡ Some new = ap (slice_get (slice_set rows number new)) here ∙ set_here rows number new there in
        ap (λ (o : Option (List ℕ)). count_of (slice_get (row_in o) other)) is
        ∙ wrote other
        ∙ ap (λ (xs : List ℕ). if nat_eq other level then slots else count_of (slice_get xs other)) was
    by false e =
        let elsewhere : of ≡ number → ⊥ = λ here. let bad = eq-eqb of number here in cc (bad, e) in
        ap (λ (o : Option (List ℕ)). count_of (slice_get (row_in o) other)) (set_elsewhere rows number of new elsewhere)
        ∙ ap (λ (xs : List ℕ). count_of (slice_get xs other)) (same of)
