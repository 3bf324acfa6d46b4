use Rattle.ctl_machine.proofs.resuming.resume_plainly.Given as goal

abbrev pub ghost-resume_leaving : goal.ghost-resume_leaving
ghost-resume_leaving g a = g.s

abbrev pub ghost-resume_creating : goal.ghost-resume_creating
ghost-resume_creating g a = g.s

abbrev pub ghost-resume_copying : goal.ghost-resume_copying
ghost-resume_copying g a = g.s

abbrev pub ghost-resume_undoing : goal.ghost-resume_undoing
ghost-resume_undoing g a = g.s

abbrev pub ghost-resume_undoing_own : goal.ghost-resume_undoing_own
ghost-resume_undoing_own g a = g.s

abbrev pub ghost-resume_initializing : goal.ghost-resume_initializing
ghost-resume_initializing g a = g.s

abbrev pub ghost-resume_failing : goal.ghost-resume_failing
ghost-resume_failing g a = g.s

abbrev pub ghost-resume_assigning : goal.ghost-resume_assigning
ghost-resume_assigning g a = g.s

abbrev pub ghost-resume_adjusting_own : goal.ghost-resume_adjusting_own
ghost-resume_adjusting_own g a = g.s

abbrev pub ghost-resume_finalizing : goal.ghost-resume_finalizing
ghost-resume_finalizing g a = g.s

abbrev pub ghost-resume_finalizing_own : goal.ghost-resume_finalizing_own
ghost-resume_finalizing_own g a = g.s

abbrev pub ghost-resume_allocating : goal.ghost-resume_allocating
ghost-resume_allocating g a = g.s

abbrev pub ghost-resume_allocating_copy : goal.ghost-resume_allocating_copy
ghost-resume_allocating_copy g a = g.s

abbrev pub ghost-resume_freeing : goal.ghost-resume_freeing
ghost-resume_freeing g a = g.s
