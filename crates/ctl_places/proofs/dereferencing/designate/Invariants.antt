use Rattle.ctl_places.proofs.dereferencing.designate.Given as goal

abbrev pub ghost-dereference : goal.ghost-dereference
ghost-dereference g a = g.s
