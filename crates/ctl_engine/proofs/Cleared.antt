-- Cells of a new master are cleared.
use Rattle.std.proofs.Common.{◌≡◌, ℕ, zero, suc, ◌+◌, ◌<◌, ◌≤◌, List, [], ◌∷◌, ◌++◌, length, refl, sym, ap, ◌∙◌, subst, arith, map, replicate}
use Rattle.std.specs.Prelude.{slice_set}
use Rattle.std.proofs.lemmas.List.{length-append, append-nil, append_assoc, length-replicate}
use Rattle.ctl_meaning.specs.World.{unset}
use Rattle.ctl_meaning.specs.Lists.{opened_lists}
use Rattle.ctl_meaning.specs.Names.{opened_names}
use Rattle.ctl_frames.specs.Under.{cell_in}
use Rattle.ctl_engine.specs.Moves.{cleared}
use Rattle.ctl_frames.proofs.Lists.{length_set}
use Rattle.ctl_engine.proofs.Values.{set_last}

item_last : (n x : ℕ) → replicate n x ++ x ∷ [] ≡ replicate (suc n) x
item_last zero x = refl
item_last (suc n) x = ap (λ (l : List ℕ). x ∷ l) (item_last n x)

zero_last : (n : ℕ) → ◌++◌ {A = ℕ} (replicate n 0) (0 ∷ []) ≡ replicate (suc n) 0
zero_last n = item_last n 0

pub length_cleared : (base n : ℕ) (cells : List ℕ) → length (cleared base n cells) ≡ length cells
length_cleared base zero cells = refl
length_cleared base (suc n) cells = length_set (cleared base n cells) (base + n) 0 ∙ length_cleared base n cells

-- behind these cells stand as many of 0
pub cleared_is : (below rest : List ℕ) (base n : ℕ) → base ≡ length below → base + n ≤ length (below ++ rest) → (more : List ℕ) × (cleared base n (below ++ rest) ≡ (below ++ replicate n 0) ++ more)
cleared_is below rest base zero e within = (rest, ap (λ l. l ++ rest) (sym (append-nil below)))
cleared_is below rest base (suc n) e within =
    let less : base + n ≤ length (below ++ rest) = omega (arith, within) in
    let ih = cleared_is below rest base n e less in
    let front : List ℕ = below ++ replicate n 0 in
    let long : base + n ≡ length front = rw (length-append below (replicate n 0), length-replicate {A = ℕ} n 0) (omega (arith, e)) in
    let same : length (cleared base n (below ++ rest)) ≡ length (below ++ rest) = length_cleared base n (below ++ rest) in
    let there : base + n < length (front ++ ih.0) = subst (λ (l : List ℕ). base + n < length l) ih.1 (omega (arith, same, within)) in
    let last = set_last front ih.0 0 (base + n) long there in
    (last.0, ap (λ l. slice_set l (base + n) 0) ih.1 ∙ (last.1 ∙ ap (λ l. l ++ last.0) (append_assoc below (replicate n 0) (0 ∷ []) ∙ ap (λ (l : List ℕ). below ++ l) (zero_last n))))

pub unset_cells : (n : ℕ) → map cell_in (replicate n unset) ≡ replicate n 0
unfolding opened_lists opened_names
unset_cells zero = refl
unset_cells (suc n) = ap (λ l. 0 ∷ l) (unset_cells n)
