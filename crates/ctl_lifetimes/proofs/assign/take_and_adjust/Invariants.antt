use Rattle.ctl_engine.specs.Assigning.{with_value}
use Rattle.ctl_lifetimes.proofs.assign.take_and_adjust.Given as goal

abbrev pub ghost-take_over : goal.ghost-take_over
ghost-take_over g a = g.t

abbrev pub ghost-adjust_target : goal.ghost-adjust_target
ghost-adjust_target g a = with_value g.t.1 g.t.0
