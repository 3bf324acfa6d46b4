use Rattle.std.proofs.Common.{◌≡◌, ℕ, ◌+◌, List, [], ◌∷◌, drop, length, refl, sym, ap, ◌∙◌, arith}
use Rattle.std.specs.Prelude.{slice_index_or}
use Rattle.ctl_objects.specs.Declarations.{cells_written}
use Rattle.ctl_objects.proofs.Laid.{length_part}
use Rattle.ctl_storage.proofs.Cells.{all_dropped, item_dropped}
use Rattle.ctl_objects.proofs.cells.write_cells.Goals as goal

pub loop-at-init : goal.loop-at-init
loop-at-init c =
    let none : c.args.start + 0 ≡ c.args.start = omega arith in
    (ap (λ n. cells_written c.args.object.now n c.args.values.now c.args.cells.now) none, refl)

pub loop-at-preserved : goal.loop-at-preserved
loop-at-preserved c =
    let o = c.args.object.now in
    let values = c.args.values.now in
    let at = c.loop-at.at in
    let start = c.args.start in
    let before = c.loop-at.invariant in
    let further : start + (at + 1) ≡ start + at + 1 = omega arith in
    let item : drop at values ≡ slice_index_or values at 0 ∷ drop (at + 1) values = item_dropped values at (omega arith) in
    let same = ap (λ (l : List ℕ). length l) c.write_cell.ensures in
    let long = length_part o (start + at) (slice_index_or values at 0) c.loop-at.cells in (
      ap (λ n. cells_written o n (drop (at + 1) values) c.write_cell.new.cells) further
          ∙ (ap (λ (l : List ℕ). cells_written o (start + at + 1) (drop (at + 1) values) l) c.write_cell.ensures
          ∙ (ap (λ (l : List ℕ). cells_written o (start + at) l c.loop-at.cells) (sym item)
          ∙ before.0)),
      same ∙ (long ∙ before.1),
    )

pub returns : goal.returns
returns c =
    let o = c.args.object.now in
    let values = c.args.values.now in
    let before = c.loop-at.invariant in
    let none : drop c.loop-at.at values ≡ [] = all_dropped values c.loop-at.at (omega arith) in
    ap (λ (l : List ℕ). cells_written o (c.args.start + c.loop-at.at) l c.loop-at.cells) (sym none) ∙ before.0
