use Rattle.ctl_machine.proofs.resuming.resume_newest.Given as goal

abbrev pub ghost-resume_undoing_parts : goal.ghost-resume_undoing_parts
ghost-resume_undoing_parts g a = g.s

abbrev pub ghost-resume_filling : goal.ghost-resume_filling
ghost-resume_filling g a = g.s

abbrev pub ghost-resume_adjusting : goal.ghost-resume_adjusting
ghost-resume_adjusting g a = g.s

abbrev pub ghost-resume_finalizing_parts : goal.ghost-resume_finalizing_parts
ghost-resume_finalizing_parts g a = g.s

abbrev pub ghost-resume_emptying : goal.ghost-resume_emptying
ghost-resume_emptying g a = g.s

abbrev pub ghost-resume_plainly : goal.ghost-resume_plainly
ghost-resume_plainly g a = g.s
