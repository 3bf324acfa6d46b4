use Rattle.ctl_meaning.specs.Objects.{first_cells}
use Rattle.ctl_code.specs.Table.{size_of}
use Rattle.ctl_frames.specs.Spots.{value_on_top}
use Rattle.ctl_allocations.proofs.CopyDeclared.{copied_by}
use Rattle.ctl_frames.proofs.Newest.{newest_object}
use Rattle.ctl_allocations.proofs.declare.declare_value.Given as goal

abbrev pub ghost-newest_value : goal.ghost-newest_value
ghost-newest_value g a = g.s

abbrev pub ghost-adjust_new : goal.ghost-adjust_new
ghost-adjust_new g a = copied_by a.code.now a.place (newest_object a.engine.now.owned.items).slot a.record (first_cells (size_of a.code.now a.record) (value_on_top g.s.operands)) g.s
