use Rattle.ctl_machine.proofs.finalizing.resume_finalizing_own.Given as goal

abbrev pub ghost-finalize_behind : goal.ghost-finalize_behind
ghost-finalize_behind g a = g.s
