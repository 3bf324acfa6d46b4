use Rattle.ctl_lifetimes.proofs.adjusting.adjust_part.Given as goal

abbrev pub ghost-adjust_own : goal.ghost-adjust_own
ghost-adjust_own g a = g.t
