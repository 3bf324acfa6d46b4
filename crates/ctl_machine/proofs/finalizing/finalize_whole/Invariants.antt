use Rattle.ctl_allocations.proofs.WholeFinalized.{whole_of}
use Rattle.ctl_machine.proofs.finalizing.finalize_whole.Given as goal

abbrev pub ghost-finalize_part : goal.ghost-finalize_part
ghost-finalize_part g a = whole_of a.finalization.cause a.doubles.spot g.t
