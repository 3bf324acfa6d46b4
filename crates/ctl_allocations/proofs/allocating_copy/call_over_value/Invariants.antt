use Rattle.std.proofs.Common.{◌∷◌, drop}
use Rattle.ctl_code.specs.States.{Cells}
use Rattle.ctl_frames.specs.Spots.{standing}
use Rattle.ctl_allocations.proofs.allocating_copy.call_over_value.Given as goal

abbrev pub ghost-put_value : goal.ghost-put_value
ghost-put_value g a = standing g.s.0.control (drop 1 g.s.0.operands)

abbrev pub ghost-enter_allocate : goal.ghost-enter_allocate
ghost-enter_allocate g a = let s = g.s.0 in (record s { operands = Cells g.s.3 ∷ drop 1 s.operands }, g.s.1, g.s.2)
