use Rattle.ctl_meaning.specs.Objects.{first_cells}
use Rattle.ctl_code.specs.Table.{size_of, units_of}
use Rattle.ctl_places.specs.Granting.{place_granted, world_granted}
use Rattle.ctl_frames.specs.Spots.{value_on_top}
use Rattle.ctl_allocations.proofs.CopyAllocated.{taken_state}
use Rattle.ctl_engine.proofs.MasterOf.{object_or}
use Rattle.ctl_allocations.proofs.allocating_copy.value_member.Given as goal

abbrev pub ghost-newest_value : goal.ghost-newest_value
ghost-newest_value g a = g.s.0

abbrev pub ghost-grantor : goal.ghost-grantor
ghost-grantor g a = g.s.0

abbrev pub ghost-call_over_value : goal.ghost-call_over_value
ghost-call_over_value g a = (g.s.0, object_or a.pool a.engine.now.stock.objects, a.set, first_cells (size_of a.code.now a.record) (value_on_top g.s.0.operands))

abbrev pub ghost-add_member : goal.ghost-add_member
ghost-add_member g a = (g.s.0, g.s.1)

abbrev pub ghost-adjust_member : goal.ghost-adjust_member
ghost-adjust_member g a = let granted = g.s.1 (units_of a.code.now a.record) in taken_state a.code.now a.set a.record (place_granted granted) (world_granted g.s.0.world granted) (first_cells (size_of a.code.now a.record) (value_on_top g.s.0.operands)) g.s.0
