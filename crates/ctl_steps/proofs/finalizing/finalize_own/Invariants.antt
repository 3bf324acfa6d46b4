use Rattle.ctl_steps.proofs.finalizing.finalize_own.Given as goal

abbrev pub ghost-finalize_among : goal.ghost-finalize_among
ghost-finalize_among g a = g.t
