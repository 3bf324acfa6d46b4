use Rattle.ctl_lifetimes.proofs.AfterFinalize.{finished_in}
use Rattle.ctl_lifetimes.proofs.undoing.resume_undoing_own.Given as goal

abbrev pub ghost-undo_components : goal.ghost-undo_components
ghost-undo_components g a = finished_in g.s.control g.s.world
