use Rattle.ctl_grammar.proofs.Told.{too_deep_exactly}
use Rattle.ctl_grammar.proofs.laws.too_deep_exactly.Goals as goal

pub returns : goal.returns
returns c = too_deep_exactly
