use Rattle.ctl_lifetimes.proofs.creating.resume_copying.Given as goal

abbrev pub ghost-undo_declared : goal.ghost-undo_declared
ghost-undo_declared g a = g.s

abbrev pub ghost-end_copy : goal.ghost-end_copy
ghost-end_copy g a = g.s
