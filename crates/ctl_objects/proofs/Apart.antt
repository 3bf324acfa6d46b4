-- Cells of one declared object that are written into another one.
use Rattle.std.proofs.Common.{◌≡◌, ◌≢◌, ◌∙◌, inl, inr, ℕ, zero, suc, ◌+◌, ◌<◌, List, [], ◌∷◌, ◌++◌, Option, Some, Bool, true, false, refl, sym, map, ap, arith, length}
use Rattle.std.specs.Prelude.{nat_lt, slice_get, slice_set, if◌then◌else◌}
use Rattle.std.proofs.lemmas.Bool.Decides.{nat_tests}
use Rattle.ctl_meaning.specs.World.{Object}
use Rattle.ctl_meaning.specs.Objects.{cells_at, object_in}
use Rattle.ctl_objects.specs.declared.declarations.Declaration.{Declaration}
use Rattle.ctl_objects.specs.Copies.{copied}
use Rattle.ctl_objects.specs.Declarations.{AreKept, AreLaid, LieApart, cell_written, cells_written, object_of}
use Rattle.ctl_objects.proofs.Found.{same_item}
use Rattle.ctl_objects.proofs.Kept.{all_written, found_at}
use Rattle.ctl_objects.proofs.Laid.{cut_after, cut_before, first_above, same_cells}

-- two objects lie apart
pub lie_apart : (os : List Declaration) (i j start total : ℕ) (a b : Declaration) → AreLaid start os total → slice_get os i ≡ Some a → slice_get os j ≡ Some b → a.number ≢ b.number → LieApart a b
lie_apart [] i j start total a b h e f differs = absurd (cc)
lie_apart (x ∷ os) zero zero start total a b h e f differs = absurd (differs (ap (λ (z : Declaration). z.number) (sym (same_item x a e) ∙ same_item x b f)))
lie_apart (x ∷ os) zero (suc j) start total a b h e f differs =
    let same : x ≡ a = same_item x a e in
    let first : x.first ≡ a.first = ap (λ (z : Declaration). z.first) same in
    let cells : x.cells ≡ a.cells = ap (λ (z : Declaration). z.cells) same in
    let begins = h.0 in
    let above = first_above os j (start + x.cells) total b h.1 f in
    inl (omega (arith, first, cells, begins, above))
lie_apart (x ∷ os) (suc i) zero start total a b h e f differs =
    let same : x ≡ b = same_item x b f in
    let first : x.first ≡ b.first = ap (λ (z : Declaration). z.first) same in
    let cells : x.cells ≡ b.cells = ap (λ (z : Declaration). z.cells) same in
    let begins = h.0 in
    let above = first_above os i (start + x.cells) total a h.1 e in
    inr (omega (arith, first, cells, begins, above))
lie_apart (x ∷ os) (suc i) (suc j) start total a b h e f differs = lie_apart os i j (start + x.cells) total a b h.1 e f differs

-- an object stays as a cell of another one is written
one_untouched : (a b : Declaration) (offset x : ℕ) (cells : List ℕ) → LieApart a b → object_of (cell_written b offset x cells) a ≡ object_of cells a
one_untouched a b offset x cells apart = by (nat_lt offset b.cells) refl
  where
    at : offset < b.cells → LieApart a b → object_of (slice_set cells (b.first + offset) x) a ≡ object_of cells a
    at less (inl before) = same_cells cells (slice_set cells (b.first + offset) x) a (cut_after a.first a.cells (b.first + offset) x cells (omega (arith, before)))
    at less (inr behind) = same_cells cells (slice_set cells (b.first + offset) x) a (cut_before a.first a.cells (b.first + offset) x cells (omega (arith, behind, less)))

    by : (t : Bool) → nat_lt offset b.cells ≡ t → object_of (if t then slice_set cells (b.first + offset) x else cells) a ≡ object_of cells a
    by true is = at (grind (arith, nat_tests, is)) apart
    by false is = refl

pub untouched : (a b : Declaration) (offset : ℕ) (v cells : List ℕ) → LieApart a b → object_of (cells_written b offset v cells) a ≡ object_of cells a
untouched a b offset [] cells apart = refl
untouched a b offset (x ∷ v) cells apart = untouched a b (offset + 1) v (cell_written b offset x cells) apart ∙ one_untouched a b offset x cells apart

-- a value behind those that are written
pub written_behind : (b : Declaration) (target at x : ℕ) (v cells : List ℕ) → length v ≡ at → cell_written b (target + at) x (cells_written b target v cells) ≡ cells_written b target (v ++ x ∷ []) cells
written_behind b target at x [] cells long = let none : target + at ≡ target = omega (arith, long) in ap (λ n. cell_written b n x cells) none
written_behind b target zero x (y ∷ v) cells long = absurd (omega (arith, long))
written_behind b target (suc at) x (y ∷ v) cells long =
    let further : target + suc at ≡ target + 1 + at = omega arith in
    ap (λ n. cell_written b n x (cells_written b (target + 1) v (cell_written b target y cells))) further
    ∙ written_behind b (target + 1) at x v (cell_written b target y cells) (omega (arith, long))

-- cells of an object are copied
pub copied_here : (os : List Declaration) (cells : List ℕ) (from to i j : ℕ) (a b : Declaration) (start target count : ℕ) → AreKept os (length cells) → slice_get os i ≡ Some a → a.number ≡ from → slice_get os j ≡ Some b → b.number ≡ to
    → map (object_of (cells_written b target (cells_at start count (object_of cells a)) cells)) os ≡ copied start to target count (object_in from (map (object_of cells) os)) (map (object_of cells) os)
copied_here os cells from to i j a b start target count k found number there other =
    all_written os cells to j b target (cells_at start count (object_of cells a)) k there other
    ∙ ap (λ (o : Option Object). copied start to target count o (map (object_of cells) os)) (sym (found_at os cells (length cells) from i k (a, found, number)))
