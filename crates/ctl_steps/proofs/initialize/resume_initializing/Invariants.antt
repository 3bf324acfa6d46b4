use Rattle.ctl_code.specs.Table as Table
use Rattle.ctl_lifetimes.proofs.Filled.{grown_of}
use Rattle.ctl_lifetimes.proofs.GivesUp.{given_up}
use Rattle.ctl_steps.proofs.initialize.resume_initializing.Given as goal

abbrev pub ghost-fail : goal.ghost-fail
ghost-fail g a = (g.s, given_up (Table.controlled_of a.code.now a.record) g.s)

abbrev pub ghost-complete : goal.ghost-complete
ghost-complete g a = grown_of g.s
