use Rattle.ctl_lifetimes.proofs.CopyUndone.{undone_in}
use Rattle.ctl_lifetimes.proofs.creating.undo_copy.Given as goal

abbrev pub ghost-undo_part : goal.ghost-undo_part
ghost-undo_part g a = undone_in g.s.control g.s.world
