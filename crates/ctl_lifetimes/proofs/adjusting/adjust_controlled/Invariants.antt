use Rattle.ctl_lifetimes.proofs.adjusting.adjust_controlled.Given as goal

abbrev pub ghost-adjust_among : goal.ghost-adjust_among
ghost-adjust_among g a = g.t
