use Rattle.ctl_places.proofs.variables.set_variable.Given as goal

abbrev pub ghost-variable : goal.ghost-variable
ghost-variable g a = g.s
