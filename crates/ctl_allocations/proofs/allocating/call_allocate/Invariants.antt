use Rattle.ctl_allocations.proofs.allocating.call_allocate.Given as goal

abbrev pub ghost-enter_allocate : goal.ghost-enter_allocate
ghost-enter_allocate g a = g.s
