use Rattle.ctl_code.specs.Table.{units_of}
use Rattle.ctl_places.specs.Granting.{place_granted, world_granted}
use Rattle.ctl_allocations.proofs.CopyAllocated.{taken_state, value_of}
use Rattle.ctl_engine.proofs.MasterOf.{object_or}
use Rattle.ctl_allocations.proofs.allocating_copy.copy_member.Given as goal

abbrev pub ghost-grantor : goal.ghost-grantor
ghost-grantor g a = g.s.0

abbrev pub ghost-call_over_value : goal.ghost-call_over_value
ghost-call_over_value g a = (g.s.0, object_or a.pool a.engine.now.stock.objects, a.set, value_of a.code.now a.record g.s.1 g.s.0)

abbrev pub ghost-newest_cells : goal.ghost-newest_cells
ghost-newest_cells g a = (g.s.0, g.s.1)

abbrev pub ghost-add_member : goal.ghost-add_member
ghost-add_member g a = (g.s.0, g.s.2)

abbrev pub ghost-adjust_member : goal.ghost-adjust_member
ghost-adjust_member g a = let granted = g.s.2 (units_of a.code.now a.record) in taken_state a.code.now a.set a.record (place_granted granted) (world_granted g.s.0.world granted) (value_of a.code.now a.record g.s.1 g.s.0) g.s.0
