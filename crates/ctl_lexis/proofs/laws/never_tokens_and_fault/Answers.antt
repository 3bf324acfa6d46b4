use Rattle.ctl_lexis.proofs.OneAnswer.{never_both}
use Rattle.ctl_lexis.proofs.laws.never_tokens_and_fault.Goals as goal

pub returns : goal.returns
returns c = never_both
