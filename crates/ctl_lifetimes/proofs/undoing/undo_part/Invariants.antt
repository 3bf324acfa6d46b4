use Rattle.ctl_lifetimes.proofs.undoing.undo_part.Given as goal

abbrev pub ghost-undo_own : goal.ghost-undo_own
ghost-undo_own g a = g.t

abbrev pub ghost-undo_components : goal.ghost-undo_components
ghost-undo_components g a = g.t
