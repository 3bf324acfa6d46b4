use Rattle.ctl_places.proofs.variables.copy_back.Given as goal

abbrev pub ghost-set_variable : goal.ghost-set_variable
ghost-set_variable g a = g.s
