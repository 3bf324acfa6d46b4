use Rattle.ctl_engine.proofs.Allocated.{behind_frame}
use Rattle.ctl_allocations.proofs.allocating.resume_allocating.Given as goal

abbrev pub ghost-end_allocation : goal.ghost-end_allocation
ghost-end_allocation g a = behind_frame g.s
