-- Paths that begin with others, and those that are noted.
use Rattle.std.proofs.Common.{◌≡◌, ◌≢◌, ℕ, zero, suc, ◌+◌, ◌<◌, ◌≤◌, List, [], ◌∷◌, ◌++◌, Bool, true, false, Some, length, refl, sym, ap, ◌∙◌, arith, drop}
use Rattle.std.specs.Prelude.{◌||◌, ◌&&◌, nat_eq, slice_get, slice_index_or}
use Rattle.ctl_meaning.specs.Finalization.{Spot}
use Rattle.ctl_meaning.specs.Lists.{any_of, begins, opened_lists}
use Rattle.ctl_frames.specs.Noted.{paths_of}
use Rattle.ctl_frames.proofs.Lists.{eq_same, eq_differs, same_at}

-- A path begins with another -------------------------------------------------------------------------

pub too_short : (xs ys : List ℕ) → length ys < length xs → begins xs ys ≡ false
unfolding opened_lists
too_short [] ys less = absurd (omega (arith, less))
too_short (x ∷ xs) [] less = refl
too_short (x ∷ xs) (y ∷ ys) less = by (nat_eq x y) (too_short xs ys (omega (arith, less)))
  where
    by : (b : Bool) → begins xs ys ≡ false → (b && begins xs ys) ≡ false
    by true e = e
    by false e = refl

pub other_here : (xs ys : List ℕ) (at : ℕ) → at < length xs → length xs ≤ length ys → slice_index_or ys at 0 ≢ slice_index_or xs at 0 → begins (drop at xs) (drop at ys) ≡ false
unfolding opened_lists
other_here [] ys at h e d = absurd (omega (arith, h))
other_here (x ∷ xs) [] at h e d = absurd (omega (arith, e))
other_here (x ∷ xs) (y ∷ ys) zero h e d = ap (λ b. b && begins xs ys) (eq_differs x y (λ same. d (sym same)))
other_here (x ∷ xs) (y ∷ ys) (suc at) h e d = other_here xs ys at (omega (arith, h)) (omega (arith, e)) d

pub begins_here : (xs ys : List ℕ) (at : ℕ) → at < length xs → length xs ≤ length ys → slice_index_or ys at 0 ≡ slice_index_or xs at 0 → begins (drop at xs) (drop at ys) ≡ begins (drop (suc at) xs) (drop (suc at) ys)
unfolding opened_lists
begins_here [] ys at h e d = absurd (omega (arith, h))
begins_here (x ∷ xs) [] at h e d = absurd (omega (arith, e))
begins_here (x ∷ xs) (y ∷ ys) zero h e d = ap (λ b. b && begins xs ys) (eq_same x y (sym d))
begins_here (x ∷ xs) (y ∷ ys) (suc at) h e d = begins_here xs ys at (omega (arith, h)) (omega (arith, e)) d

pub begins_so_far : (xs ys : List ℕ) (at : ℕ) → at ≡ length xs → begins (drop at xs) ys ≡ true
unfolding opened_lists
begins_so_far [] ys zero h = refl
begins_so_far [] ys (suc at) h = absurd (omega (arith, h))
begins_so_far (x ∷ xs) ys zero h = absurd (omega (arith, h))
begins_so_far (x ∷ xs) ys (suc at) h = begins_so_far xs ys at (omega (arith, h))

-- with one more position
pub begins_below : (xs ys : List ℕ) (p q : ℕ) → slice_get ys (length xs) ≡ Some q → begins (xs ++ p ∷ []) ys ≡ (nat_eq p q && begins xs ys)
unfolding opened_lists
begins_below [] [] p q e = absurd (cc)
begins_below [] (y ∷ ys) p q e = ap (λ (z : ℕ). nat_eq p z && true) (same_at y q (Some y) refl e)
begins_below (x ∷ xs) [] p q e = absurd (cc)
begins_below (x ∷ xs) (y ∷ ys) p q e = ap (λ b. nat_eq x y && b) (begins_below xs ys p q e) ∙ by (nat_eq x y) (nat_eq p q)
  where
    by : (b c : Bool) → (b && (c && begins xs ys)) ≡ (c && (b && begins xs ys))
    by true true = refl
    by true false = refl
    by false true = refl
    by false false = refl

pub ends_before : (xs ys : List ℕ) (p : ℕ) → length ys ≤ length xs → begins (xs ++ p ∷ []) ys ≡ false
unfolding opened_lists
ends_before [] [] p e = refl
ends_before [] (y ∷ ys) p e = absurd (omega (arith, e))
ends_before (x ∷ xs) [] p e = refl
ends_before (x ∷ xs) (y ∷ ys) p e = by (nat_eq x y) (ends_before xs ys p (omega (arith, e)))
  where
    by : (b : Bool) → begins (xs ++ p ∷ []) ys ≡ false → (b && begins (xs ++ p ∷ []) ys) ≡ false
    by true e = e
    by false e = refl

-- The paths that are noted -----------------------------------------------------------------------------

path_at : (noted : List Spot) (at : ℕ) (s : Spot) → slice_get noted at ≡ Some s → slice_get (paths_of noted) at ≡ Some s.path
path_at [] at s e = absurd (cc)
path_at (x ∷ noted) zero s e = ap (λ (y : Spot). Some y.path) (same_at x s (Some x) refl e)
path_at (x ∷ noted) (suc at) s e = path_at noted at s e

pub count_paths : (noted : List Spot) → length (paths_of noted) ≡ length noted
count_paths [] = refl
count_paths (x ∷ noted) = ap (λ n. suc n) (count_paths noted)

item_passes : {X : Type 0} (p : X → Bool) (xs : List X) (at : ℕ) (x : X) → slice_get xs at ≡ Some x → any_of p (drop at xs) ≡ (p x || any_of p (drop (suc at) xs))
unfolding opened_lists
item_passes p [] at x e = absurd (cc)
item_passes {X} p (y ∷ ys) zero x e = ap (λ (z : X). p z || any_of p ys) (same_at y x (Some y) refl e)
item_passes p (y ∷ ys) (suc at) x e = item_passes p ys at x e

-- one of them passes
pub noted_here : (p : List ℕ → Bool) (noted : List Spot) (at : ℕ) (s : Spot) → slice_get noted at ≡ Some s → p s.path ≡ true → any_of p (drop at (paths_of noted)) ≡ true
noted_here p noted at s e it = item_passes p (paths_of noted) at s.path (path_at noted at s e) ∙ ap (λ b. b || any_of p (drop (suc at) (paths_of noted))) it

-- or it does not
pub noted_elsewhere : (p : List ℕ → Bool) (noted : List Spot) (at next : ℕ) (s : Spot) → slice_get noted at ≡ Some s → p s.path ≡ false → next ≡ at + 1 → any_of p (drop next (paths_of noted)) ≡ any_of p (drop at (paths_of noted))
noted_elsewhere p noted at next s e it is =
    let same : next ≡ suc at = omega (arith, is) in
    ap (λ n. any_of p (drop n (paths_of noted))) same ∙ sym (item_passes p (paths_of noted) at s.path (path_at noted at s e) ∙ ap (λ b. b || any_of p (drop (suc at) (paths_of noted))) it)

pub none_behind : {X : Type 0} (p : X → Bool) (xs : List X) (at : ℕ) → length xs ≤ at → any_of p (drop at xs) ≡ false
unfolding opened_lists
none_behind p [] zero h = refl
none_behind p [] (suc at) h = refl
none_behind p (x ∷ xs) zero h = absurd (omega (arith, h))
none_behind p (x ∷ xs) (suc at) h = none_behind p xs at (omega (arith, h))
