use Rattle.ctl_machine.proofs.evaluating.transfer_out.Given as goal

abbrev pub ghost-end_default : goal.ghost-end_default
ghost-end_default g a = g.s

abbrev pub ghost-transfer : goal.ghost-transfer
ghost-transfer g a = g.s
