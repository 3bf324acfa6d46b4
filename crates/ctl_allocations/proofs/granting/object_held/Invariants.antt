use Rattle.ctl_allocations.proofs.granting.object_held.Given as goal

abbrev pub ghost-holder_seen : goal.ghost-holder_seen
ghost-holder_seen g a = g.s
