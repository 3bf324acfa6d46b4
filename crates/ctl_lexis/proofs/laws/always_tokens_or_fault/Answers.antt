use Rattle.ctl_lexis.proofs.OneAnswer.{always_one}
use Rattle.ctl_lexis.proofs.laws.always_tokens_or_fault.Goals as goal

pub returns : goal.returns
returns c = always_one
