use Rattle.ctl_places.proofs.locating.select.Given as goal

abbrev pub ghost-is_newest_value : goal.ghost-is_newest_value
ghost-is_newest_value g a = g.s

abbrev pub ghost-select_of_value : goal.ghost-select_of_value
ghost-select_of_value g a = g.s

abbrev pub ghost-select_of_part : goal.ghost-select_of_part
ghost-select_of_part g a = g.s
