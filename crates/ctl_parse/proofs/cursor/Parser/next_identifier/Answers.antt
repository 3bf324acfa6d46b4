use Rattle.ctl_grammar.specs.Grammar.{next_identifier}
use Rattle.ctl_grammar.specs.Nodes.{second}
use Rattle.ctl_parse.proofs.Steps.{making_2}
use Rattle.std.proofs.Common.{refl}
use Rattle.ctl_parse.proofs.cursor.Parser.next_identifier.Goals as goal

pub returns : goal.returns
unfolding next_identifier
returns c = making_2 second (λ x y. refl) c.skip.ensures c.identifier.ensures
