use Rattle.ctl_grammar.proofs.Faults.{one_of_both}
use Rattle.ctl_grammar.proofs.laws.one_of_both.Goals as goal

pub returns : goal.returns
returns c = one_of_both
