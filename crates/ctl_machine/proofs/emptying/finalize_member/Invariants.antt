use Rattle.ctl_machine.proofs.emptying.finalize_member.Given as goal

abbrev pub ghost-finalize_whole : goal.ghost-finalize_whole
ghost-finalize_whole g a = g.t.2
