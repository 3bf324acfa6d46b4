use Rattle.std.specs.Prelude.{Some}
use Rattle.ctl_lifetimes.proofs.Targets.{target_over}
use Rattle.ctl_steps.proofs.assign.finalize_controlled.Given as goal

abbrev pub ghost-begin_assignment : goal.ghost-begin_assignment
ghost-begin_assignment g a = g.t

abbrev pub ghost-finalize_assigned : goal.ghost-finalize_assigned
ghost-finalize_assigned g a = target_over a.finalization.record_type (Some g.t.1) g.t.0
