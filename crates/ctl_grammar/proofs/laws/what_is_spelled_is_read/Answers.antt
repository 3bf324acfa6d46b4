use Rattle.ctl_grammar.proofs.Programs.{reads_what_is_spelled}
use Rattle.ctl_grammar.proofs.laws.what_is_spelled_is_read.Goals as goal

pub returns : goal.returns
returns c = reads_what_is_spelled
