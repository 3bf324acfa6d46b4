use Rattle.ctl_lifetimes.proofs.InitializeCalled.{call_of}
use Rattle.ctl_engine.proofs.MasterOf.{object_or}
use Rattle.ctl_lifetimes.proofs.initialize.call_initialize.Given as goal

abbrev pub ghost-call_operation : goal.ghost-call_operation
ghost-call_operation g a = call_of a.code.now (object_or g.t.0.new.spot.object a.self.now.stock.objects) g.t.0
