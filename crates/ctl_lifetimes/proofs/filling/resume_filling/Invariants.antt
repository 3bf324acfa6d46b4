use Rattle.ctl_code.specs.Table as Table
use Rattle.ctl_lifetimes.proofs.Filled.{grown_of, incomplete_in}
use Rattle.ctl_lifetimes.proofs.GivesUp.{given_up}
use Rattle.ctl_lifetimes.proofs.filling.resume_filling.Given as goal

abbrev pub ghost-complete_of : goal.ghost-complete_of
ghost-complete_of g a = incomplete_in g.s.control

abbrev pub ghost-fail : goal.ghost-fail
ghost-fail g a = (g.s, given_up (Table.complete_of a.code.now a.record (incomplete_in g.s.control)) g.s)

abbrev pub ghost-initialize : goal.ghost-initialize
ghost-initialize g a = grown_of g.s

abbrev pub ghost-fill : goal.ghost-fill
ghost-fill g a = g.s
