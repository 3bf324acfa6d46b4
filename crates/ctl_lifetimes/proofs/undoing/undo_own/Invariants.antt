use Rattle.ctl_lifetimes.proofs.undoing.undo_own.Given as goal

abbrev pub ghost-undo_adjusted : goal.ghost-undo_adjusted
ghost-undo_adjusted g a = g.t

abbrev pub ghost-undo_components : goal.ghost-undo_components
ghost-undo_components g a = g.t
