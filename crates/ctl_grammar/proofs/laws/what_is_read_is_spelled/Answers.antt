use Rattle.ctl_grammar.proofs.Programs.{spells_what_is_read}
use Rattle.ctl_grammar.proofs.laws.what_is_read_is_spelled.Goals as goal

pub returns : goal.returns
returns c = spells_what_is_read
