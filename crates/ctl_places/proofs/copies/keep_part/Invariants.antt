use Rattle.ctl_places.proofs.copies.keep_part.Given as goal

abbrev pub ghost-begin_copy : goal.ghost-begin_copy
ghost-begin_copy g a = g.s

abbrev pub ghost-is_newest_value : goal.ghost-is_newest_value
ghost-is_newest_value g a = g.s
