use Rattle.ctl_allocations.proofs.declare.declare_copy.Given as goal

abbrev pub ghost-is_newest_value : goal.ghost-is_newest_value
ghost-is_newest_value g a = g.s

abbrev pub ghost-declare_value : goal.ghost-declare_value
ghost-declare_value g a = g.s

abbrev pub ghost-declare_part : goal.ghost-declare_part
ghost-declare_part g a = g.s
