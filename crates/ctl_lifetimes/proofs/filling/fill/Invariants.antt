use Rattle.ctl_code.specs.Table.{begun_of}
use Rattle.ctl_lifetimes.proofs.Filled.{between, grown_of, left_in}
use Rattle.ctl_lifetimes.proofs.filling.fill.Given as goal

abbrev pub ghost-begin_chosen : goal.ghost-begin_chosen
ghost-begin_chosen g a = (grown_of g.s, left_in g.s.control, between a.rest (begun_of a.code.now a.creation.record_type))
