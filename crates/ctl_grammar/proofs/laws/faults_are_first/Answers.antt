use Rattle.ctl_grammar.proofs.Faults.{faults_are_first}
use Rattle.ctl_grammar.proofs.laws.faults_are_first.Goals as goal

pub returns : goal.returns
returns c = faults_are_first
