use Rattle.ctl_machine.proofs.assign.replace_value.Given as goal

abbrev pub ghost-replace_at_once : goal.ghost-replace_at_once
ghost-replace_at_once g a = g.t

abbrev pub ghost-finalize_target : goal.ghost-finalize_target
ghost-finalize_target g a = g.t
