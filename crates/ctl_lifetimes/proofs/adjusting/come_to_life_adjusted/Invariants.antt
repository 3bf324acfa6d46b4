use Rattle.ctl_lifetimes.proofs.AfterFinalize.{finished_in}
use Rattle.ctl_lifetimes.proofs.adjusting.come_to_life_adjusted.Given as goal

abbrev pub ghost-adjusted : goal.ghost-adjusted
ghost-adjusted g a = finished_in g.s.control g.s.world
