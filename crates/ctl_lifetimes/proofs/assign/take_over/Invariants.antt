use Rattle.std.specs.Prelude.{Some}
use Rattle.ctl_lifetimes.proofs.assign.take_over.Given as goal

abbrev pub ghost-end_assignment : goal.ghost-end_assignment
ghost-end_assignment g a = (g.t.0, Some g.t.1)

abbrev pub ghost-take_there : goal.ghost-take_there
ghost-take_there g a = g.t
