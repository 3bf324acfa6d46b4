use Rattle.ctl_places.proofs.Freed.{state_there}
use Rattle.ctl_steps.proofs.freeing.null_variable.Given as goal

abbrev pub ghost-give : goal.ghost-give
ghost-give g a = state_there g.t.0

abbrev pub ghost-return_storage : goal.ghost-return_storage
ghost-return_storage g a = g.t.1
