-- What a cut, a homecoming and a write do to the list of free blocks. The blocks have w words, and the list has n blocks, the first at h.
use Rattle.std.proofs.Common.{◌≡◌, ℕ, zero, suc, ◌+◌, ◌<◌, ◌≤◌, List, ◌∷◌, length, None, Some, refl, sym, ap, subst, ◌∙◌, arith, set, IsSome}
use Rattle.std.proofs.lemmas.List.{get_or-set_other, get_or-set_same}
use mathlib.Core.Logic.{◌⊎◌, inl, inr, ⊎_elim, ◌≢◌}
use Rattle.raw_region.specs.Places.{Places, place, word_or_zero, held, out, with_run, AreHeld, AreOut}
use Rattle.raw_region.proofs.PlaceLemmas.{order, length-held, length-out, held_not_out, with_run-outside, held_after, one_within}
use Rattle.block_pool.specs.FreeList.{next_free, free_starts, AreDisjoint, IsApart, IsFreeList}

-- the place k is not in the block of w words at s
abbrev pub IsOutside : ℕ → ℕ → ℕ → Type 0
IsOutside w s k = (k < s) ⊎ (s + w ≤ k)

-- outside of the block at s, qs is ps
abbrev pub IsSameOutside : Places → Places → ℕ → ℕ → Type 0
IsSameOutside ps qs w s = (k : ℕ) → IsOutside w s k → place qs k ≡ place ps k

-- a place of one of two disjoint blocks is outside of the other
outside_of : (w s h k : ℕ) → AreDisjoint w s h → h ≤ k → k < h + w → IsOutside w s k
outside_of w s h k disjoint lo hi =
    ⊎_elim (λ (before : k < s). inl before)
    (λ (from : s ≤ k). ⊎_elim (λ (within : k < s + w). absurd (disjoint k from within lo hi)) (λ (behind : s + w ≤ k). inr behind) (order k (s + w)))
    (order k s)

-- a list that is apart from a block does not see what changes in that block
module _ (ps qs : Places) (w s : ℕ) (positive : 0 < w) (same : IsSameOutside ps qs w s) where
  next_same : (h : ℕ) → AreDisjoint w s h → next_free qs h ≡ next_free ps h
  next_same h disjoint = ap word_or_zero (same h (outside_of w s h h disjoint (omega arith) (omega arith)))

  pub starts_same : (n h : ℕ) → IsApart w s (free_starts ps n h) → free_starts qs n h ≡ free_starts ps n h
  starts_same zero h apart = refl
  starts_same (suc n) h apart = ap (λ l. h ∷ l) (ap (free_starts qs n) (next_same h apart.0) ∙ starts_same n (next_free ps h) apart.1)

  held_same : (h : ℕ) → AreDisjoint w s h → AreHeld ps h w → AreHeld qs h w
  held_same h disjoint there k lo hi = subst IsSome (sym (same k (outside_of w s h k disjoint lo hi))) (there k lo hi)

  pub list_same : (n h : ℕ) → IsApart w s (free_starts ps n h) → IsFreeList ps w n h → IsFreeList qs w n h
  list_same zero h apart list = tt
  list_same (suc n) h apart list =
      let next = next_same h apart.0 in (
        held_same h apart.0 list.0,
        subst (λ ks. IsApart w h ks) (sym (ap (free_starts qs n) next ∙ starts_same n (next_free ps h) apart.1)) list.1,
        subst (λ k. IsFreeList qs w n k) (sym next) (list_same n (next_free ps h) apart.1 list.2),
      )

-- the first block is taken out, and the others stay a list
pub without_first : (ps : Places) (w n h : ℕ) → 0 < w → h + w ≤ length ps → IsFreeList ps w (suc n) h → IsFreeList (with_run ps h (out w)) w n (next_free ps h)
without_first ps w n h positive fits list =
    let long = length-out w in
    let same : IsSameOutside ps (with_run ps h (out w)) w h = λ k off.
    with_run-outside ps h (out w) k (omega arith) (⊎_elim (λ (before : k < h). inl before) (λ (behind : h + w ≤ k). inr (omega arith)) off) in
    list_same ps (with_run ps h (out w)) w h positive same n (next_free ps h) list.1 list.2

-- a block that is out overlaps none that is free
apart_of_out : (ps : Places) (w n h s : ℕ) → IsFreeList ps w n h → AreOut ps s w → IsApart w s (free_starts ps n h)
apart_of_out ps w zero h s list gone = tt
apart_of_out ps w (suc n) h s list gone =
    (λ m lo hi lo' hi'. held_not_out (place ps m) (list.0 m lo' hi') (gone m lo hi), apart_of_out ps w n (next_free ps h) s list.2 gone)

-- the link to a list is written into the first word of the block at s
module _ (ps : Places) (w n h s : ℕ) (positive : 0 < w) (inside : s < length ps) where
  abbrev linked : Places
  linked = set ps s (Some h)

  pub link_written : place linked s ≡ Some h
  link_written = get_or-set_same ps s (Some h) None inside

  pub link_only : (k : ℕ) → k ≢ s → place linked k ≡ place ps k
  link_only k other = get_or-set_other ps s k (Some h) None other

  pub link_same : IsSameOutside ps linked w s
  link_same k off = link_only k (λ e. ⊎_elim (λ (before : k < s). let no : ⊥ = omega arith in no) (λ (behind : s + w ≤ k). let no : ⊥ = omega arith in no) off)

  pub starts_behind_link : IsApart w s (free_starts ps n h) → free_starts linked n (next_free linked s) ≡ free_starts ps n h
  starts_behind_link apart = ap (λ k. free_starts linked n k) (ap word_or_zero link_written) ∙ starts_same ps linked w s positive link_same n h apart

-- a block that the region holds is put in front of a list
pub with_first : (ps : Places) (w n h s : ℕ) → 0 < w → AreHeld ps s w → IsApart w s (free_starts ps n h) → IsFreeList ps w n h → IsFreeList (set ps s (Some h)) w (suc n) s
with_first ps w n h s positive there apart list =
    let qs = set ps s (Some h) in
    let inside = one_within ps s (there s (omega arith) (omega arith)) in
    let at = link_written ps w n h s positive inside in
    let next : next_free qs s ≡ h = ap word_or_zero at in (
      λ k lo hi. ⊎_elim (λ (behind : s < k). subst IsSome (sym (link_only ps w n h s positive inside k (λ e. let no : ⊥ = omega arith in no))) (there k lo hi))
          (λ (le : k ≤ s). let first : s ≡ k = omega arith in subst (λ m. IsSome (place qs m)) first (subst IsSome (sym at) refl)) (order s k),
      subst (λ ks. IsApart w s ks) (sym (starts_behind_link ps w n h s positive inside apart)) apart,
      subst (λ k. IsFreeList qs w n k) (sym next) (list_same ps qs w s positive (link_same ps w n h s positive inside) n h apart list),
    )

-- a block comes home and is put in front
pub with_returned : (ps : Places) (w n h s : ℕ) (ws : List ℕ) → 0 < w → length ws ≡ w → s + w ≤ length ps → AreOut ps s w → IsFreeList ps w n h
    → IsFreeList (set (with_run ps s (held ws)) s (Some h)) w (suc n) s
with_returned ps w n h s ws positive long fits gone list =
    let qs = with_run ps s (held ws) in
    let held_long = length-held ws in
    let same : IsSameOutside ps qs w s = λ k off.
    with_run-outside ps s (held ws) k (omega arith) (⊎_elim (λ (before : k < s). inl before) (λ (behind : s + w ≤ k). inr (omega arith)) off) in
    let apart = apart_of_out ps w n h s list gone in
    let there = subst (λ m. AreHeld qs s m) long (held_after ps s ws (omega arith)) in
    with_first qs w n h s positive there (subst (λ ks. IsApart w s ks) (sym (starts_same ps qs w s positive same n h apart)) apart) (list_same ps qs w s positive same n h apart list)
