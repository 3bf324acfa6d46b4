use Rattle.ctl_lifetimes.proofs.creating.undo_declared.Given as goal

abbrev pub ghost-undo_copy : goal.ghost-undo_copy
ghost-undo_copy g a = g.s
