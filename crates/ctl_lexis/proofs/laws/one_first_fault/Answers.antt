use Rattle.ctl_lexis.proofs.OneAnswer.{one_fault}
use Rattle.ctl_lexis.proofs.laws.one_first_fault.Goals as goal

pub returns : goal.returns
returns c = one_fault
