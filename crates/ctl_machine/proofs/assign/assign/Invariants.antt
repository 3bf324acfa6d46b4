use Rattle.ctl_meaning.specs.Objects.{first_cells}
use Rattle.ctl_code.specs.Table.{size_of}
use Rattle.ctl_frames.specs.Spots.{value_on_top}
use Rattle.ctl_allocations.proofs.Assigned.{assigned_at}
use Rattle.ctl_machine.proofs.assign.assign.Given as goal

abbrev pub ghost-is_value_below : goal.ghost-is_value_below
ghost-is_value_below g a = g.s

abbrev pub ghost-is_newest_value : goal.ghost-is_newest_value
ghost-is_newest_value g a = g.s

abbrev pub ghost-replace_value : goal.ghost-replace_value
ghost-replace_value g a = (assigned_at a.place g.s, first_cells (size_of a.code.now a.record) (value_on_top g.s.operands))

abbrev pub ghost-assign_part : goal.ghost-assign_part
ghost-assign_part g a = g.s
