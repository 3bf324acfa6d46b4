use Rattle.ctl_grammar.proofs.Programs.{finds_the_unexpected}
use Rattle.ctl_grammar.proofs.laws.first_unexpected_token.Goals as goal

pub returns : goal.returns
returns c = finds_the_unexpected
