use Rattle.std.proofs.Common.{◌∙◌, ◌++◌, ◌∷◌, List, ℕ, [], ap, arith, refl, sym}
use Rattle.std.proofs.lemmas.List.{append-nil, append_assoc}
use Rattle.ctl_meaning.specs.Objects.{cells_at}
use Rattle.ctl_objects.specs.Declarations.{object_of}
use Rattle.ctl_objects.proofs.Runs.{copied_more, none_copied}
use Rattle.ctl_objects.proofs.cells.save_cells.Goals as goal

pub loop-at-init : goal.loop-at-init
loop-at-init c =
    let items = c.args.saved.now.items in
    (sym (ap (λ (l : List ℕ). items ++ l) (none_copied c.args.start (object_of c.args.cells.now c.args.object.now)) ∙ append-nil items), omega arith, refl)

pub loop-at-preserved : goal.loop-at-preserved
loop-at-preserved c =
    let items = c.args.saved.now.items in
    let o = object_of c.args.cells.now c.args.object.now in
    let at = c.loop-at.at in
    let before = c.loop-at.invariant in
    let copied = cells_at c.args.start at o in
    let long = c.push_reserved.ensures.len in
    let longer = before.1 in (
      c.push_reserved.ensures.items
          ∙ (ap (λ (l : List ℕ). l ++ c.read_cell-value.result ∷ []) before.0
          ∙ (append_assoc items copied (c.read_cell-value.result ∷ [])
          ∙ ap (λ (l : List ℕ). items ++ l) (ap (λ n. copied ++ n ∷ []) c.read_cell-value.ensures ∙ sym (copied_more c.args.start at o)))),
      omega (arith, long, longer),
      c.push_reserved.ensures.capacity ∙ before.2,
    )
