use Rattle.ctl_engine.specs.Assigning.{with_value}
use Rattle.ctl_lifetimes.proofs.assign.take_alone.Given as goal

abbrev pub ghost-take_over : goal.ghost-take_over
ghost-take_over g a = g.t

abbrev pub ghost-adjust_alone : goal.ghost-adjust_alone
ghost-adjust_alone g a = with_value g.t.1 g.t.0
