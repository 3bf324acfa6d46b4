-- Operands that are parts of objects, and the stack that the machine keeps of them.
use Rattle.std.proofs.Common.{◌≡◌, ◌≢◌, ℕ, zero, suc, ◌+◌, ◌-◌, ◌<◌, List, [], ◌∷◌, ◌++◌, Some, Bool, true, false, length, refl, sym, ap, ◌∙◌, subst, arith, drop, take}
use Rattle.std.specs.Prelude.{◌&&◌, nat_eq, slice_get, slice_index_or, slice_set}
use Rattle.std.proofs.lemmas.List.{append_assoc, length-append}
use Rattle.ctl_meaning.specs.Lists.{same_list, opened_lists}
use Rattle.ctl_code.specs.States as T
use Rattle.ctl_code.specs.States.{Word, cells_of}
use Rattle.ctl_frames.proofs.Lists.{eq_same, eq_differs, get_right, same_at, set_right}
use Rattle.ctl_frames.proofs.Links.{got}
use Rattle.ctl_frames.proofs.Newest.{get_newest}

-- Cells of operands ------------------------------------------------------------------------------------

pub length_cells : (ops : List Word) → length (cells_of ops) ≡ length ops
length_cells [] = refl
length_cells (x ∷ ops) = ap (λ n. suc n) (length_cells ops)

pub cells_dropped : (n : ℕ) (ops : List Word) → cells_of (drop n ops) ≡ drop n (cells_of ops)
cells_dropped zero ops = refl
cells_dropped (suc n) [] = refl
cells_dropped (suc n) (x ∷ ops) = cells_dropped n ops

pub cells_taken : (n : ℕ) (ops : List Word) → cells_of (take n ops) ≡ take n (cells_of ops)
cells_taken zero ops = refl
cells_taken (suc n) [] = refl
cells_taken (suc n) (x ∷ ops) = ap (λ (l : List ℕ). T.worth x ∷ l) (cells_taken n ops)

-- Lists that end with one item ---------------------------------------------------------------------------

pub same_front : {X : Type 0} (xs ys : List X) (x y : X) → xs ++ x ∷ [] ≡ ys ++ y ∷ [] → (xs ≡ ys) × (x ≡ y)
same_front [] [] x y e = (refl, cc)
same_front [] (z ∷ []) x y e = absurd (cc)
same_front [] (z ∷ w ∷ ys) x y e = absurd (cc)
same_front (z ∷ []) [] x y e = absurd (cc)
same_front (z ∷ w ∷ xs) [] x y e = absurd (cc)
same_front {X} (z ∷ xs) (w ∷ ys) x y e =
    let ih = same_front xs ys x y (ap (λ (l : List X). drop 1 l) e) in
    let first : z ≡ w = cc in
    (ap (λ (l : List X). z ∷ l) ih.0 ∙ ap (λ (c : X). c ∷ ys) first, ih.1)

pub many_of : {X : Type 0} (xs below : List X) (x : X) → xs ≡ below ++ x ∷ [] → length xs ≡ length below + 1
many_of {X} xs below x e = ap (λ (l : List X). length l) e ∙ length-append below (x ∷ [])

pub last_there : {X : Type 0} (xs below : List X) (x : X) → xs ≡ below ++ x ∷ [] → slice_get xs (length xs - 1) ≡ Some x
last_there {X} xs below x e = subst (λ (l : List X). slice_get l (length l - 1) ≡ Some x) (sym e) (get_newest below x)

pub newest_there : {X : Type 0} (xs below : List X) (x : X) (n : ℕ) → xs ≡ below ++ x ∷ [] → n ≡ length xs → slice_get xs (n - 1) ≡ Some x
newest_there xs below x n e many = ap (λ m. slice_get xs (m - 1)) many ∙ last_there xs below x e

-- the last item that was read
pub last_read : {X : Type 0} (xs below : List X) (x y : X) → xs ≡ below ++ x ∷ [] → y ≡ slice_index_or xs (length xs - 1) y → y ≡ x
last_read xs below x y e read = let many = many_of xs below x e in same_at y x (slice_get xs (length xs - 1)) (got xs (length xs - 1) y (omega (arith, many)) read) (last_there xs below x e)

pub newest_read : {X : Type 0} (xs below : List X) (x y : X) (n : ℕ) → xs ≡ below ++ x ∷ [] → n ≡ length xs → y ≡ slice_index_or xs (n - 1) y → y ≡ x
newest_read xs below x y n e many read = last_read xs below x y e (read ∙ ap (λ m. slice_index_or xs (m - 1) y) many)

-- another takes its place
pub last_replaced : {X : Type 0} (xs below : List X) (x y : X) (n : ℕ) → xs ≡ below ++ x ∷ [] → n ≡ length xs → slice_set xs (n - 1) y ≡ below ++ y ∷ []
last_replaced {X} xs below x y n e long =
    let many = many_of xs below x e in
    ap (λ (l : List X). slice_set l (n - 1) y) e ∙ set_right below (x ∷ []) 0 (n - 1) y (omega (arith, many, long))

-- the one below it
pub next_there : {X : Type 0} (xs below : List X) (x y : X) (n : ℕ) → xs ≡ (below ++ x ∷ []) ++ y ∷ [] → n ≡ length xs → slice_get xs (n - 2) ≡ Some x
next_there {X} xs below x y n e long =
    let many = many_of xs (below ++ x ∷ []) y e in
    let fewer = length-append below (x ∷ []) in
    ap (λ (l : List X). slice_get l (n - 2)) (e ∙ append_assoc below (x ∷ []) (y ∷ []))
    ∙ get_right below (x ∷ y ∷ []) 0 (n - 2) (omega (arith, many, fewer, long))

pub next_read : {X : Type 0} (xs below : List X) (x y z : X) (n : ℕ) → xs ≡ (below ++ x ∷ []) ++ y ∷ [] → n ≡ length xs → z ≡ slice_index_or xs (n - 2) z → z ≡ x
next_read {X} xs below x y z n e long read =
    let many = many_of xs (below ++ x ∷ []) y e in
    same_at z x (slice_get xs (n - 2)) (got xs (n - 2) z (omega (arith, many, long)) read) (next_there xs below x y n e long)

front_taken : {X : Type 0} (xs ys : List X) → take (length xs) (xs ++ ys) ≡ xs
front_taken [] ys = refl
front_taken {X} (x ∷ xs) ys = ap (λ (l : List X). x ∷ l) (front_taken xs ys)

pub two_dropped : {X : Type 0} (xs below : List X) (x y : X) (n : ℕ) → xs ≡ (below ++ x ∷ []) ++ y ∷ [] → n ≡ length xs → take (n - 2) xs ≡ below
two_dropped {X} xs below x y n e long =
    let many = many_of xs (below ++ x ∷ []) y e in
    let fewer = length-append below (x ∷ []) in
    let front : n - 2 ≡ length below = omega (arith, many, fewer, long) in
    ap (λ (l : List X). take (n - 2) l) (e ∙ append_assoc below (x ∷ []) (y ∷ []))
    ∙ (ap (λ m. take m (below ++ x ∷ y ∷ [])) front ∙ front_taken below (x ∷ y ∷ []))

-- Paths ------------------------------------------------------------------------------------------------

pub differs_long : (xs ys : List ℕ) → length xs ≢ length ys → same_list xs ys ≡ false
unfolding opened_lists
differs_long [] [] h = absurd (h refl)
differs_long [] (y ∷ ys) h = refl
differs_long (x ∷ xs) [] h = refl
differs_long (x ∷ xs) (y ∷ ys) h = by (nat_eq x y) (differs_long xs ys (λ e. h (ap (λ n. suc n) e)))
  where
    by : (b : Bool) → same_list xs ys ≡ false → (b && same_list xs ys) ≡ false
    by true e = e
    by false e = refl

pub differs_here : (xs ys : List ℕ) (at : ℕ) → at < length xs → length xs ≡ length ys → slice_index_or xs at 0 ≢ slice_index_or ys at 0 → same_list (drop at xs) (drop at ys) ≡ false
unfolding opened_lists
differs_here [] ys at h e d = absurd (omega (arith, h))
differs_here (x ∷ xs) [] at h e d = absurd (omega (arith, e))
differs_here (x ∷ xs) (y ∷ ys) zero h e d = ap (λ b. b && same_list xs ys) (eq_differs x y d)
differs_here (x ∷ xs) (y ∷ ys) (suc at) h e d = differs_here xs ys at (omega (arith, h)) (omega (arith, e)) d

pub same_here : (xs ys : List ℕ) (at : ℕ) → at < length xs → length xs ≡ length ys → slice_index_or xs at 0 ≡ slice_index_or ys at 0 → same_list (drop at xs) (drop at ys) ≡ same_list (drop (suc at) xs) (drop (suc at) ys)
unfolding opened_lists
same_here [] ys at h e d = absurd (omega (arith, h))
same_here (x ∷ xs) [] at h e d = absurd (omega (arith, e))
same_here (x ∷ xs) (y ∷ ys) zero h e d = ap (λ b. b && same_list xs ys) (eq_same x y d)
same_here (x ∷ xs) (y ∷ ys) (suc at) h e d = same_here xs ys at (omega (arith, h)) (omega (arith, e)) d

pub all_same : (xs ys : List ℕ) (at : ℕ) → at ≡ length xs → length xs ≡ length ys → same_list (drop at xs) (drop at ys) ≡ true
unfolding opened_lists
all_same [] [] zero h e = refl
all_same [] [] (suc at) h e = refl
all_same [] (y ∷ ys) at h e = absurd (omega (arith, e))
all_same (x ∷ xs) [] at h e = absurd (omega (arith, e))
all_same (x ∷ xs) (y ∷ ys) zero h e = absurd (omega (arith, h))
all_same (x ∷ xs) (y ∷ ys) (suc at) h e = all_same xs ys at (omega (arith, h)) (omega (arith, e))
