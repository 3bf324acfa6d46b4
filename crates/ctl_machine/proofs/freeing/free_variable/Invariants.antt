use Rattle.ctl_machine.proofs.freeing.free_variable.Given as goal

abbrev pub ghost-read_variable : goal.ghost-read_variable
ghost-read_variable g a = g.s

abbrev pub ghost-fate : goal.ghost-fate
ghost-fate g a = g.s

abbrev pub ghost-free_at_once_by_variable : goal.ghost-free_at_once_by_variable
ghost-free_at_once_by_variable g a = g.s

abbrev pub ghost-release_by_variable : goal.ghost-release_by_variable
ghost-release_by_variable g a = g.s
