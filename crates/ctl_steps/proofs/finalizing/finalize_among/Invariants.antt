use Rattle.ctl_engine.specs.Finishing.{own_call}
use Rattle.ctl_engine.proofs.MasterOf.{object_or}
use Rattle.ctl_lifetimes.proofs.UserBodies.{body_of_finalize}
use Rattle.ctl_steps.proofs.finalizing.finalize_among.Given as goal

abbrev pub ghost-call_finalize : goal.ghost-call_finalize
ghost-call_finalize g a = (g.t, own_call (object_or g.t.spot.object a.engine.now.stock.objects) (body_of_finalize a.code.now a.finalization.record_type) a.finalization.cause a.finalization.record_type g.t)

abbrev pub ghost-finalize_components : goal.ghost-finalize_components
ghost-finalize_components g a = g.t
