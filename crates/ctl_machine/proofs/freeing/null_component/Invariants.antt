use Rattle.ctl_machine.proofs.freeing.null_component.Given as goal

abbrev pub ghost-return_storage : goal.ghost-return_storage
ghost-return_storage g a = g.t.2
