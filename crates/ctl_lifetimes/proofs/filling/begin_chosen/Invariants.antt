use Rattle.ctl_lifetimes.proofs.filling.begin_chosen.Given as goal

abbrev pub ghost-take_default : goal.ghost-take_default
ghost-take_default g a = (g.t.0, g.t.2)

abbrev pub ghost-begin_component : goal.ghost-begin_component
ghost-begin_component g a = g.t

abbrev pub ghost-begin_default : goal.ghost-begin_default
ghost-begin_default g a = g.t
