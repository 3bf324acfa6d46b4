use Rattle.ctl_grammar.proofs.Programs.{finds_the_too_deep}
use Rattle.ctl_grammar.proofs.laws.first_construct_too_deep.Goals as goal

pub returns : goal.returns
returns c = finds_the_too_deep
