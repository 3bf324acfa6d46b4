use Rattle.ctl_allocations.proofs.granting.grantor_held.Given as goal

abbrev pub ghost-object_held : goal.ghost-object_held
ghost-object_held g a = g.s

abbrev pub ghost-pool_grantor : goal.ghost-pool_grantor
ghost-pool_grantor g a = g.s
