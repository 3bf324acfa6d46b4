use Rattle.ctl_places.proofs.Deallocated.{call_for}
use Rattle.ctl_steps.proofs.freeing.return_storage.Given as goal

abbrev pub ghost-deallocate : goal.ghost-deallocate
ghost-deallocate g a = call_for a.call a.units a.place g.t
