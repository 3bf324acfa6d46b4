use Rattle.ctl_allocations.proofs.allocating.place_member.Given as goal

abbrev pub ghost-add_at_address : goal.ghost-add_at_address
ghost-add_at_address g a = g.s
