use Rattle.ctl_allocations.proofs.granting.grantor.Given as goal

abbrev pub ghost-grantor_held : goal.ghost-grantor_held
ghost-grantor_held g a = g.s
