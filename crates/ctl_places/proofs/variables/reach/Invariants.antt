use Rattle.ctl_places.proofs.variables.reach.Given as goal

abbrev pub ghost-fetch : goal.ghost-fetch
ghost-fetch g a = g.s

abbrev pub ghost-store : goal.ghost-store
ghost-store g a = g.s

abbrev pub ghost-copy_back : goal.ghost-copy_back
ghost-copy_back g a = g.s
