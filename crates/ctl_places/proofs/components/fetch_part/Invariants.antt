use Rattle.ctl_places.proofs.components.fetch_part.Given as goal

abbrev pub ghost-read_held : goal.ghost-read_held
ghost-read_held g a = g.s
