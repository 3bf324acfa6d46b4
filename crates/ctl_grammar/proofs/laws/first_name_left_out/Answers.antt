use Rattle.ctl_grammar.proofs.Programs.{finds_the_left_out}
use Rattle.ctl_grammar.proofs.laws.first_name_left_out.Goals as goal

pub returns : goal.returns
returns c = finds_the_left_out
