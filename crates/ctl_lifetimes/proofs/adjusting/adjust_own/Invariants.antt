use Rattle.ctl_lifetimes.proofs.adjusting.adjust_own.Given as goal

abbrev pub ghost-adjust_controlled : goal.ghost-adjust_controlled
ghost-adjust_controlled g a = g.t
