use Rattle.ctl_machine.proofs.resuming.resume.Given as goal

abbrev pub ghost-resume_newest : goal.ghost-resume_newest
ghost-resume_newest g a = g.s
