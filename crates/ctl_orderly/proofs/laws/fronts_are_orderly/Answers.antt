use Rattle.ctl_orderly.proofs.Traces as T
use Rattle.ctl_orderly.proofs.laws.fronts_are_orderly.Goals as goal

pub returns : goal.returns
returns c = T.fronts_are_orderly
