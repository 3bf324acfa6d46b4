use Rattle.ctl_grammar.proofs.Faults.{breaks_are_faults}
use Rattle.ctl_grammar.proofs.laws.breaks_are_faults.Goals as goal

pub returns : goal.returns
returns c = breaks_are_faults
