use Rattle.std.proofs.Common.{◌∙◌, ◌++◌, ◌+◌, ◌∷◌, [], List, ap, length, refl, sym, ℕ}
use Rattle.ctl_meaning.specs.World.{Object}
use Rattle.ctl_meaning.specs.Names.{scalar_of}
use Rattle.ctl_meaning.specs.Objects.{cells_at}
use Rattle.ctl_objects.specs.Declarations.{cell_written, cells_written, object_of}
use Rattle.ctl_objects.proofs.Apart.{untouched, written_behind}
use Rattle.ctl_objects.proofs.Laid.{length_part}
use Rattle.ctl_objects.proofs.Runs.{copied_more, length_copied, none_copied}
use Rattle.ctl_objects.proofs.cells.copy_cells.Goals as goal

pub loop-at-init : goal.loop-at-init
loop-at-init c =
    let cells = c.args.cells.now in
    record { written = sym (ap (λ (v : List ℕ). cells_written c.args.to.now c.args.target v cells) (none_copied c.args.start (object_of cells c.args.from.now))); long = refl }

pub loop-at-preserved : goal.loop-at-preserved
loop-at-preserved c =
    let a = c.args.from.now in
    let b = c.args.to.now in
    let cells = c.args.cells.now in
    let at = c.loop-at.at in
    let start = c.args.start in
    let target = c.args.target in
    let before = c.loop-at.invariant in
    let o = object_of cells a in
    let v = cells_at start at o in
    let stays = ap (λ (l : List ℕ). object_of l a) before.written ∙ untouched a b target v cells c.requires.apart in
    let value = c.read_cell-value.ensures ∙ ap (λ (x : Object). scalar_of (cells_at (start + at) 1 x)) stays in
    let x = c.read_cell-value.result in
    record {
      written = c.write_cell.ensures
          ∙ (ap (λ (l : List ℕ). cell_written b (target + at) x l) before.written
          ∙ (written_behind b target at x v cells (length_copied start at o)
          ∙ ap (λ (l : List ℕ). cells_written b target l cells) (ap (λ n. v ++ n ∷ []) value ∙ sym (copied_more start at o))));
      long = ap (λ (l : List ℕ). length l) c.write_cell.ensures ∙ (length_part b (target + at) x c.loop-at.cells ∙ before.long);
    }
