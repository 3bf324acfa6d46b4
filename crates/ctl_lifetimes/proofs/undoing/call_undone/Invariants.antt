use Rattle.ctl_lifetimes.proofs.undoing.call_undone.Given as goal

abbrev pub ghost-call_operation : goal.ghost-call_operation
ghost-call_operation g a = g.t.1
