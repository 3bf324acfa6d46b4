use Rattle.std.specs.Prelude.{◌≡◌, ◌+◌, drop, length}
use Rattle.ctl_objects.specs.Declarations.{cells_written}
use Rattle.ctl_objects.proofs.cells.write_cells.Given as goal

-- the values that are left are still to be written
abbrev pub invariant-loop-at : goal.invariant-loop-at
invariant-loop-at l = (cells_written l.fn.object (l.fn.start + l.at) (drop l.at l.fn.values) l.cells ≡ cells_written l.fn.object l.fn.start l.fn.values l.fn.cells) × (length l.cells ≡ length l.fn.cells)
