use Rattle.ctl_places.proofs.returning.cells_of_value.Given as goal

abbrev pub ghost-newest_value : goal.ghost-newest_value
ghost-newest_value g a = g.s
