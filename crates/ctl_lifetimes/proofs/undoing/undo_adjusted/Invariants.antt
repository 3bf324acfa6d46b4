use Rattle.ctl_lifetimes.specs.Undoing.{undo_call}
use Rattle.ctl_engine.proofs.MasterOf.{object_or}
use Rattle.ctl_lifetimes.proofs.UserBodies.{body_of_finalize}
use Rattle.ctl_lifetimes.proofs.undoing.undo_adjusted.Given as goal

abbrev pub ghost-call_undone : goal.ghost-call_undone
ghost-call_undone g a = (g.t, undo_call (object_or g.t.spot.object a.engine.now.stock.objects) (body_of_finalize a.code.now a.undoing.record_type) a.undoing.record_type g.t)

abbrev pub ghost-undo_components : goal.ghost-undo_components
ghost-undo_components g a = g.t
