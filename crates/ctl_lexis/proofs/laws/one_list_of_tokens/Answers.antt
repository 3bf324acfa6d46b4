use Rattle.ctl_lexis.proofs.OneAnswer.{one_list}
use Rattle.ctl_lexis.proofs.laws.one_list_of_tokens.Goals as goal

pub returns : goal.returns
returns c = one_list
