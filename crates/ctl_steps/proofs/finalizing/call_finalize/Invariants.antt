use Rattle.ctl_steps.proofs.finalizing.call_finalize.Given as goal

abbrev pub ghost-call_among : goal.ghost-call_among
ghost-call_among g a = g.t.1
