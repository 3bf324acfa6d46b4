use Rattle.std.specs.Prelude.{None}
use Rattle.ctl_lifetimes.proofs.Targets.{target_over}
use Rattle.ctl_lifetimes.proofs.assign.adjust_alone.Given as goal

abbrev pub ghost-adjust_among : goal.ghost-adjust_among
ghost-adjust_among g a = target_over a.adjustment.record_type None g.t
