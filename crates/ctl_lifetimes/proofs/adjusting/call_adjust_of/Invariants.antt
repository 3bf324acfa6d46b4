use Rattle.ctl_lifetimes.proofs.adjusting.call_adjust_of.Given as goal

abbrev pub ghost-call_among : goal.ghost-call_among
ghost-call_among g a = g.t.1
