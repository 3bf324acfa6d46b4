use Rattle.ctl_places.proofs.locating.take_part.Given as goal

abbrev pub ghost-is_newest_value : goal.ghost-is_newest_value
ghost-is_newest_value g a = g.s

abbrev pub ghost-take_of_value : goal.ghost-take_of_value
ghost-take_of_value g a = g.s

abbrev pub ghost-take_of_part : goal.ghost-take_of_part
ghost-take_of_part g a = g.s
