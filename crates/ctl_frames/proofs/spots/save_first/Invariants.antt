use Rattle.std.specs.Prelude.{◌≡◌, ◌+◌, ◌++◌, vec_capacity, vec_len}
use Rattle.ctl_meaning.specs.Objects.{first_cells}
use Rattle.ctl_frames.proofs.spots.save_first.Given as goal

-- so many are saved
abbrev pub invariant-loop-at : goal.invariant-loop-at
invariant-loop-at l = (l.saved.items ≡ l.fn.saved.items ++ first_cells l.at l.fn.cells) × (vec_len l.saved ≡ vec_len l.fn.saved + l.at) × (vec_capacity l.saved ≡ vec_capacity l.fn.saved)
