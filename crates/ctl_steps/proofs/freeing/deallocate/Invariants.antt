use Rattle.ctl_steps.proofs.freeing.deallocate.Given as goal

abbrev pub ghost-call_storage : goal.ghost-call_storage
ghost-call_storage g a = g.t
