use Rattle.ctl_grammar.proofs.Programs.{finds_the_end_name}
use Rattle.ctl_grammar.proofs.laws.first_wrong_end_name.Goals as goal

pub returns : goal.returns
returns c = finds_the_end_name
