use Rattle.ctl_grammar.proofs.Faults.{program_or_fault}
use Rattle.ctl_grammar.proofs.laws.program_or_fault.Goals as goal

pub returns : goal.returns
returns c = program_or_fault
