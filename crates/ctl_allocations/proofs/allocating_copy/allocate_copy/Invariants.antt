use Rattle.ctl_allocations.proofs.allocating_copy.allocate_copy.Given as goal

abbrev pub ghost-is_newest_value : goal.ghost-is_newest_value
ghost-is_newest_value g a = g.s.0

abbrev pub ghost-allocate_value : goal.ghost-allocate_value
ghost-allocate_value g a = g.s

abbrev pub ghost-allocate_part : goal.ghost-allocate_part
ghost-allocate_part g a = g.s
