use Rattle.std.specs.Prelude.{◌≡◌, ◌+◌, ◌++◌, replicate, vec_len, vec_capacity}
use Rattle.ctl_objects.proofs.cells.add_zeros.Given as goal

abbrev pub invariant-loop : goal.invariant-loop
invariant-loop l = (l.cells.items ≡ l.fn.cells.items ++ replicate l.counter 0) × (vec_len l.cells ≡ vec_len l.fn.cells + l.counter) × (vec_capacity l.cells ≡ vec_capacity l.fn.cells)
