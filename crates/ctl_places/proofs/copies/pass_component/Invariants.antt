use Rattle.ctl_places.proofs.copies.pass_component.Given as goal

abbrev pub ghost-reserve_numbers : goal.ghost-reserve_numbers
ghost-reserve_numbers g a = g.s

abbrev pub ghost-keep_part : goal.ghost-keep_part
ghost-keep_part g a = g.s

abbrev pub ghost-copy_back_part : goal.ghost-copy_back_part
ghost-copy_back_part g a = g.s
