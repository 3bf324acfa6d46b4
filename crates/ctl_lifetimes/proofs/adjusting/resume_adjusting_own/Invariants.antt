use Rattle.ctl_lifetimes.proofs.adjusting.resume_adjusting_own.Given as goal

abbrev pub ghost-come_to_life_adjusted : goal.ghost-come_to_life_adjusted
ghost-come_to_life_adjusted g a = g.s
