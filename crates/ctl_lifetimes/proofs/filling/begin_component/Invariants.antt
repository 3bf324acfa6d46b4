use Rattle.ctl_lifetimes.proofs.Creations.{grown_in}
use Rattle.ctl_lifetimes.proofs.filling.begin_component.Given as goal

abbrev pub ghost-begin_part : goal.ghost-begin_part
ghost-begin_part g a = grown_in a.spot a.record g.t.2 g.t.1 g.t.0
