use Rattle.ctl_places.specs.Freeing.{behind_frees, gone_by_variable}
use Rattle.ctl_machine.proofs.freeing.end_in_variable.Given as goal

abbrev pub ghost-null_variable : goal.ghost-null_variable
ghost-null_variable g a = let t = behind_frees g.s.control g.s.world in (t, gone_by_variable a.object a.out a.slot t)
