use Rattle.ctl_places.proofs.locating.locate.Given as goal

abbrev pub ghost-holder_seen : goal.ghost-holder_seen
ghost-holder_seen g a = g.s
