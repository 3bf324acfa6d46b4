use Rattle.ctl_machine.proofs.freeing.fate.Given as goal

abbrev pub ghost-set_held : goal.ghost-set_held
ghost-set_held g a = g.s
