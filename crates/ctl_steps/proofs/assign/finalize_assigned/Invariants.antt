use Rattle.ctl_steps.proofs.assign.finalize_assigned.Given as goal

abbrev pub ghost-finalize_among : goal.ghost-finalize_among
ghost-finalize_among g a = g.t
