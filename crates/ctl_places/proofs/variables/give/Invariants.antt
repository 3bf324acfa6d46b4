use Rattle.ctl_places.proofs.variables.give.Given as goal

abbrev pub ghost-set_variable : goal.ghost-set_variable
ghost-set_variable g a = g.s
