use Rattle.ctl_places.specs.Freeing.{gone_by_variable}
use Rattle.ctl_places.proofs.Freed.{at_place}
use Rattle.ctl_machine.proofs.freeing.free_at_once_by_variable.Given as goal

abbrev pub ghost-null_variable : goal.ghost-null_variable
ghost-null_variable g a = let t = at_place a.ending.place g.s.operands g.s in (t, gone_by_variable a.object a.out a.slot t)
