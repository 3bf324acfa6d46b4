-- What the meaning comes to for record types that are laid out: where the components lie, and whether the whole is controlled; and for those
-- that have no controlled part: none of their components has one.
use Rattle.std.proofs.Common.{◌≡◌, ℕ, zero, suc, ◌+◌, ◌-◌, ◌≤◌, ◌<◌, List, [], ◌∷◌, Some, Bool, true, false, refl, sym, ap, ◌∙◌, arith}
use Rattle.std.specs.Prelude.{slice_get, nat_eq, is_some, if◌then◌else◌, ◌||◌}
use Rattle.std.proofs.lemmas.Bool.{eqb-true, eqb-false, ne_eqb}
use Rattle.ctl_program.specs.declared.types.Ty.{Ty}
use Rattle.ctl_program.specs.declared.types.Ty.TheVariants.{Record}
use Rattle.ctl_program.specs.declared.types.Component.{Component}
use Rattle.ctl_program.specs.declared.types.RecordType.{RecordType}
use Rattle.ctl_meaning.specs.Lists.{item_or, opened_lists, keep, any_of}
use Rattle.ctl_meaning.specs.Types.{Tables, Placed, opened_types, offset_in, placed, placed_from, is_controlled, has_controlled, is_tagged_root, root_in, cells_of}
use Rattle.ctl_layout.specs.Layout.{offsets_from}
pub use Rattle.ctl_gen.proofs.Depths.{scalar_of_record, cells_laid}
use Rattle.ctl_gen.proofs.Depths.{all_within, controlled_laid}
use Rattle.ctl_gen.proofs.Known.{IsLaid, IsScalar}

-- Scalar components -------------------------------------------------------------------------------

pub one_cell_each : (k : Tables) (ty : Ty) → IsScalar ty → cells_of k ty ≡ 1
unfolding cells_of
one_cell_each k ty h = scalar_of_record 1 _ ty h

-- the component at a position, behind so many others
offset_from : (k : Tables) (first start position : ℕ) (cs : List Component) → first ≤ position → offset_in position (placed_from k first start cs) ≡ item_or 0 (slice_get (offsets_from (cells_of k) start cs) (position - first))
unfolding offset_in placed_from opened_lists
offset_from k first start position [] le = refl
offset_from k first start position (c ∷ cs) le =
    by (nat_eq position first) refl
    (λ lt.
    let step : suc (position - (first + 1)) ≡ position - first = omega (arith, lt) in
    offset_from k (first + 1) (start + cells_of k c.ty) position cs (omega (arith, lt))
    ∙ ap (λ n. item_or 0 (slice_get (offsets_from (cells_of k) start (c ∷ cs)) n)) step)
  where
    by : (b : Bool) → nat_eq position first ≡ b → (first < position → offset_in position (placed_from k (first + 1) (start + cells_of k c.ty) cs) ≡ item_or 0 (slice_get (offsets_from (cells_of k) start (c ∷ cs)) (position - first))) → (if b then start else offset_in position (placed_from k (first + 1) (start + cells_of k c.ty) cs)) ≡ item_or 0 (slice_get (offsets_from (cells_of k) start (c ∷ cs)) (position - first))
    by true e rest = let none : position - first ≡ 0 = (let same = eqb-true position first e in omega (arith, same)) in ap (λ n. item_or 0 (slice_get (offsets_from (cells_of k) start (c ∷ cs)) n)) (sym none)
    by false e rest = rest (let other = eqb-false position first e in omega (arith, le, other))

-- no position is 0
no_first : (k : Tables) (first start : ℕ) (cs : List Component) → 0 < first → offset_in 0 (placed_from k first start cs) ≡ 0
unfolding offset_in placed_from
no_first k first start [] h = refl
no_first k first start (c ∷ cs) h = ap (λ b. if b then start else offset_in 0 (placed_from k (first + 1) (start + cells_of k c.ty) cs)) (ne_eqb 0 first (λ e. omega (arith, e, h))) ∙ no_first k (first + 1) (start + cells_of k c.ty) cs (omega arith)

-- Types that are laid out -------------------------------------------------------------------------

module _ (k : Tables) (t : ℕ) (cs : List Component) (laid : IsLaid k.records t cs) where
  pub placed_laid : placed k t ≡ placed_from k 1 0 cs
  unfolding opened_types
  placed_laid = ap (placed_from k 1 0) (all_within k t cs laid)

  pub offset_laid : (position : ℕ) → offset_in position (placed k t) ≡ item_or 0 (slice_get (offsets_from (cells_of k) 0 cs) (position - 1))
  unfolding opened_lists
  offset_laid zero = ap (offset_in 0) placed_laid ∙ no_first k 1 0 cs (omega arith) ∙ sym (begins cs)
    where
      begins : (xs : List Component) → item_or 0 (slice_get (offsets_from (cells_of k) 0 xs) 0) ≡ 0
      begins [] = refl
      begins (x ∷ xs) = refl
  offset_laid (suc n) = ap (offset_in (suc n)) placed_laid ∙ offset_from k 1 0 (suc n) cs (omega arith)

-- whether the objects of a type are controlled themselves
pub root_tagged : (k : Tables) (t : ℕ) (r : RecordType) → slice_get k.records t ≡ Some r → is_controlled k t ≡ is_tagged_root r.root
unfolding opened_types
root_tagged k t r here = ap (λ o. is_tagged_root (root_in o)) here

-- Types without a controlled part -----------------------------------------------------------------

both_false : (a b : Bool) → (a || b) ≡ false → (a ≡ false) × (b ≡ false)
both_false true b e = absurd (cc e)
both_false false b e = (refl, e)

none_kept : (k : Tables) (position offset : ℕ) (cs : List Component) → any_of (λ (c : Component). has_controlled k c.ty) cs ≡ false → keep (λ p. has_controlled k p.ty) (placed_from k position offset cs) ≡ []
unfolding placed_from opened_lists
none_kept k position offset [] e = refl
none_kept k position offset (c ∷ cs) e =
    let x : Placed = record { position = position; offset = offset; ty = c.ty; defaulted = is_some c.default } in
    let rest = keep (λ p. has_controlled k p.ty) (placed_from k (position + 1) (offset + cells_of k c.ty) cs) in
    let h = both_false (has_controlled k c.ty) (any_of (λ (y : Component). has_controlled k y.ty) cs) e in
    ap (λ b. if b then x ∷ rest else rest) h.0
    ∙ none_kept k (position + 1) (offset + cells_of k c.ty) cs h.1

-- no component of one has a controlled part
pub none_held : (k : Tables) (t : ℕ) (cs : List Component) → IsLaid k.records t cs → has_controlled k (Record t) ≡ false → keep (λ p. has_controlled k p.ty) (placed k t) ≡ []
none_held k t cs laid not =
    ap (keep _) (placed_laid k t cs laid)
    ∙ none_kept k 1 0 cs (both_false (is_controlled k t) (any_of (λ (c : Component). has_controlled k c.ty) cs) (sym (controlled_laid k t cs laid) ∙ not)).1
