use Rattle.ctl_allocations.proofs.allocating.set_seen.Given as goal

abbrev pub ghost-set_held : goal.ghost-set_held
ghost-set_held g a = g.s
