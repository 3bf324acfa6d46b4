use Rattle.ctl_machine.proofs.procedures.bind_parts.Given as goal

abbrev pub ghost-bind : goal.ghost-bind
ghost-bind g a = g.t
