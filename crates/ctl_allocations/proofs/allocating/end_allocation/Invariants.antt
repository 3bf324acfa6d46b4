use Rattle.ctl_allocations.proofs.allocating.end_allocation.Given as goal

abbrev pub ghost-may_join : goal.ghost-may_join
ghost-may_join g a = g.s
