use Rattle.ctl_lifetimes.proofs.AfterFinalize.{finished_in}
use Rattle.ctl_machine.proofs.finalizing.finalize_behind.Given as goal

abbrev pub ghost-finalize_components : goal.ghost-finalize_components
ghost-finalize_components g a = finished_in g.s.control g.s.world
