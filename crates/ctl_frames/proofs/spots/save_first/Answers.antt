use Rattle.std.proofs.Common.{◌∙◌, ◌++◌, ◌∷◌, List, ℕ, [], ap, arith, refl, sym}
use Rattle.std.proofs.lemmas.List.{append-nil, append_assoc}
use Rattle.ctl_meaning.specs.Objects.{first_cells}
use Rattle.ctl_frames.proofs.FirstCells.{first_next, none_first}
use Rattle.ctl_frames.proofs.spots.save_first.Goals as goal

pub loop-at-init : goal.loop-at-init
loop-at-init c =
    let items = c.args.saved.now.items in
    (sym (ap (λ (l : List ℕ). items ++ l) (none_first c.args.cells.now) ∙ append-nil items), omega arith, refl)

pub loop-at-preserved : goal.loop-at-preserved
loop-at-preserved c =
    let items = c.args.saved.now.items in
    let v = c.args.cells.now in
    let at = c.loop-at.at in
    let before = c.loop-at.invariant in
    let x = c.cell_of-cell.result in
    let long = c.push_reserved.ensures.len in
    let longer = before.1 in (
      c.push_reserved.ensures.items
          ∙ (ap (λ (l : List ℕ). l ++ x ∷ []) before.0
          ∙ (append_assoc items (first_cells at v) (x ∷ [])
          ∙ ap (λ (l : List ℕ). items ++ l) (ap (λ n. first_cells at v ++ n ∷ []) c.cell_of-cell.ensures ∙ sym (first_next at v)))),
      omega (arith, long, longer),
      c.push_reserved.ensures.capacity ∙ before.2,
    )
