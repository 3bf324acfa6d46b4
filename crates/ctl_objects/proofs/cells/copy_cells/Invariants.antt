use Rattle.std.specs.Prelude.{◌≡◌, length}
use Rattle.ctl_meaning.specs.Objects.{cells_at}
use Rattle.ctl_objects.specs.Declarations.{cells_written, object_of}
use Rattle.ctl_objects.proofs.cells.copy_cells.Given as goal

abbrev pub invariant-loop-at : goal.invariant-loop-at
invariant-loop-at l = record {
  written : l.cells ≡ cells_written l.fn.to l.fn.target (cells_at l.fn.start l.at (object_of l.fn.cells l.fn.from)) l.fn.cells;
  long : length l.cells ≡ length l.fn.cells;
}
