use Rattle.ctl_lifetimes.proofs.emptying.empty_layer.Given as goal

abbrev pub ghost-take_out : goal.ghost-take_out
ghost-take_out g a = g.t.1
