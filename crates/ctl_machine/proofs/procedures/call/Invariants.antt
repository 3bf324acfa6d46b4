use Rattle.ctl_machine.proofs.procedures.call.Given as goal

abbrev pub ghost-call_from : goal.ghost-call_from
ghost-call_from g a = g.s
