use Rattle.ctl_allocations.proofs.granting.add_member.Given as goal

abbrev pub ghost-add_standard : goal.ghost-add_standard
ghost-add_standard g a = g.s.0

abbrev pub ghost-add_in_pool : goal.ghost-add_in_pool
ghost-add_in_pool g a = g.s.0
