use Rattle.ctl_grammar.proofs.Told.{left_out_exactly}
use Rattle.ctl_grammar.proofs.laws.left_out_name_exactly.Goals as goal

pub returns : goal.returns
returns c = left_out_exactly
