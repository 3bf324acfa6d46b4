-- The first cells of the value of a record, one after another.
use Rattle.std.proofs.Common.{◌≡◌, ◌∙◌, ℕ, zero, suc, ◌+◌, List, [], ◌∷◌, ◌++◌, Option, refl, ap, arith, drop}
use Rattle.std.specs.Prelude.{slice_get}
use Rattle.ctl_meaning.specs.Lists.{opened_lists}
use Rattle.ctl_meaning.specs.Names.{opened_names, scalar_of}
use Rattle.ctl_meaning.specs.Objects.{first_cells, opened_objects}
use Rattle.ctl_frames.specs.Spots.{cell_or}

pub cell_there : (v : List ℕ) (n : ℕ) → cell_or (slice_get v n) ≡ scalar_of (drop n v)
unfolding opened_names opened_lists
cell_there [] zero = refl
cell_there [] (suc n) = refl
cell_there (x ∷ v) zero = refl
cell_there (x ∷ v) (suc n) = cell_there v n

pub none_first : (v : List ℕ) → first_cells 0 v ≡ []
unfolding opened_objects
none_first v = refl

no_cell : (n : ℕ) → ◌≡◌ {A = Option ℕ} (slice_get [] n) (slice_get [] (suc n))
no_cell zero = refl
no_cell (suc n) = refl

-- one cell more
next_first : (n : ℕ) (v : List ℕ) → first_cells (suc n) v ≡ first_cells n v ++ cell_or (slice_get v n) ∷ []
unfolding opened_objects
next_first zero [] = refl
next_first zero (x ∷ v) = refl
next_first (suc n) [] = ap (λ (l : List ℕ). 0 ∷ l) (next_first n [] ∙ ap (λ (o : Option ℕ). first_cells n [] ++ cell_or o ∷ []) (no_cell n))
next_first (suc n) (x ∷ v) = ap (λ (l : List ℕ). x ∷ l) (next_first n v)

pub first_next : (n : ℕ) (v : List ℕ) → first_cells (n + 1) v ≡ first_cells n v ++ cell_or (slice_get v n) ∷ []
first_next n v = let next : n + 1 ≡ suc n = omega arith in ap (λ m. first_cells m v) next ∙ next_first n v
