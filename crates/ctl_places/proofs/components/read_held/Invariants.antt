use Rattle.ctl_places.proofs.components.read_held.Given as goal

abbrev pub ghost-holder_seen : goal.ghost-holder_seen
ghost-holder_seen g a = g.s

abbrev pub ghost-read_at : goal.ghost-read_at
ghost-read_at g a = g.s

abbrev pub ghost-read_formal : goal.ghost-read_formal
ghost-read_formal g a = g.s
