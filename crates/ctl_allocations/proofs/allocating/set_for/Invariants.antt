use Rattle.ctl_allocations.proofs.allocating.set_for.Given as goal

abbrev pub ghost-set_seen : goal.ghost-set_seen
ghost-set_seen g a = g.s
