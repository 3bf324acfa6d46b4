use Rattle.ctl_machine.proofs.procedures.begin_slots.Given as goal

abbrev pub ghost-bind_parts : goal.ghost-bind_parts
ghost-bind_parts g a = g.t
