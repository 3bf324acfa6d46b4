use Rattle.ctl_grammar.proofs.Told.{end_name_exactly}
use Rattle.ctl_grammar.proofs.laws.wrong_end_name_exactly.Goals as goal

pub returns : goal.returns
returns c = end_name_exactly
