use Rattle.ctl_lifetimes.specs.Adjusting.{adjust_call}
use Rattle.ctl_engine.proofs.MasterOf.{object_or}
use Rattle.ctl_lifetimes.proofs.UserBodies.{body_of_adjust}
use Rattle.ctl_lifetimes.proofs.adjusting.adjust_among.Given as goal

abbrev pub ghost-call_adjust_of : goal.ghost-call_adjust_of
ghost-call_adjust_of g a = (g.t, adjust_call (object_or g.t.spot.object a.engine.now.stock.objects) (body_of_adjust a.code.now a.adjustment.record_type) a.adjustment g.t)

abbrev pub ghost-adjusted : goal.ghost-adjusted
ghost-adjusted g a = g.t
