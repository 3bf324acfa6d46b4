use Rattle.ctl_machine.proofs.freeing.resume_freeing.Given as goal

abbrev pub ghost-end_in_variable : goal.ghost-end_in_variable
ghost-end_in_variable g a = g.s

abbrev pub ghost-end_in_part : goal.ghost-end_in_part
ghost-end_in_part g a = g.s
