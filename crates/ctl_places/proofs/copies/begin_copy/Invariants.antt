use Rattle.ctl_places.proofs.copies.begin_copy.Given as goal

abbrev pub ghost-read_at : goal.ghost-read_at
ghost-read_at g a = g.s
