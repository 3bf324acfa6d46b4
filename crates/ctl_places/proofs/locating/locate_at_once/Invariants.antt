use Rattle.ctl_places.proofs.locating.locate_at_once.Given as goal

abbrev pub ghost-holder_seen : goal.ghost-holder_seen
ghost-holder_seen g a = g.s
