use Rattle.ctl_engine.proofs.Allocated.{behind_frame}
use Rattle.ctl_allocations.proofs.allocating_copy.resume_allocating_copy.Given as goal

abbrev pub ghost-undo_copy : goal.ghost-undo_copy
ghost-undo_copy g a = g.s

abbrev pub ghost-end_allocation : goal.ghost-end_allocation
ghost-end_allocation g a = behind_frame g.s
