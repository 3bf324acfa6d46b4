use Rattle.ctl_grammar.specs.Grammar.{dotted}
use Rattle.ctl_parse.proofs.Steps.{then}
use Rattle.ctl_parse.proofs.cursor.Parser.dotted.Goals as goal

pub returns : goal.returns
unfolding dotted
returns c = then c.identifier-first.ensures c.selectors-rest.ensures
