use Rattle.ctl_machine.proofs.handlers.transfer.Given as goal

abbrev pub ghost-leave : goal.ghost-leave
ghost-leave g a = g.s
