use Rattle.ctl_steps.proofs.assign.finalize_target.Given as goal

abbrev pub ghost-finalize_controlled : goal.ghost-finalize_controlled
ghost-finalize_controlled g a = g.t

abbrev pub ghost-finalize_any : goal.ghost-finalize_any
ghost-finalize_any g a = g.t
