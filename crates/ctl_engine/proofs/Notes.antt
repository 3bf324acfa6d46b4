-- What is noted of copies: as a part is noted, and as what is noted of a copy is dropped.
use Rattle.std.proofs.Common.{◌≡◌, ℕ, zero, suc, List, [], ◌∷◌, ◌++◌, length, refl, ap, take}
use Rattle.ctl_meaning.specs.Finalization.{Spot}
use Rattle.ctl_frames.specs.Noted.{paths_of}

pub paths_more : (spots : List Spot) (s : Spot) → paths_of (spots ++ s ∷ []) ≡ paths_of spots ++ s.path ∷ []
paths_more [] s = refl
paths_more (x ∷ spots) s = ap (λ (l : List (List ℕ)). x.path ∷ l) (paths_more spots s)

pub paths_front : (n : ℕ) (spots : List Spot) → paths_of (take n spots) ≡ take n (paths_of spots)
paths_front zero spots = refl
paths_front (suc n) [] = refl
paths_front (suc n) (x ∷ spots) = ap (λ (l : List (List ℕ)). x.path ∷ l) (paths_front n spots)

pub many_paths : (spots : List Spot) → length (paths_of spots) ≡ length spots
many_paths [] = refl
many_paths (x ∷ spots) = ap (λ n. suc n) (many_paths spots)
