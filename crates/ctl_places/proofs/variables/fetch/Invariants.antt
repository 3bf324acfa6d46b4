use Rattle.ctl_places.proofs.variables.fetch.Given as goal

abbrev pub ghost-read_seen : goal.ghost-read_seen
ghost-read_seen g a = g.s
