use Rattle.ctl_machine.proofs.freeing.free_designated.Given as goal

abbrev pub ghost-fate : goal.ghost-fate
ghost-fate g a = g.s.0

abbrev pub ghost-free_at_once_by_part : goal.ghost-free_at_once_by_part
ghost-free_at_once_by_part g a = g.s

abbrev pub ghost-release_by_part : goal.ghost-release_by_part
ghost-release_by_part g a = g.s
