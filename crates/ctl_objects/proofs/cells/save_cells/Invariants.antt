use Rattle.std.specs.Prelude.{◌≡◌, ◌+◌, ◌++◌, vec_len, vec_capacity}
use Rattle.ctl_meaning.specs.Objects.{cells_at}
use Rattle.ctl_objects.specs.Declarations.{object_of}
use Rattle.ctl_objects.proofs.cells.save_cells.Given as goal

abbrev pub invariant-loop-at : goal.invariant-loop-at
invariant-loop-at l = (l.saved.items ≡ l.fn.saved.items ++ cells_at l.fn.start l.at (object_of l.fn.cells l.fn.object)) × (vec_len l.saved ≡ vec_len l.fn.saved + l.at) × (vec_capacity l.saved ≡ vec_capacity l.fn.saved)
