use Rattle.ctl_grammar.specs.Grammar.{next_formal}
use Rattle.ctl_grammar.specs.Nodes.{second}
use Rattle.ctl_parse.proofs.Steps.{making_2}
use Rattle.std.proofs.Common.{refl}
use Rattle.ctl_parse.proofs.cursor.Parser.next_formal.Goals as goal

pub returns : goal.returns
unfolding next_formal
returns c = making_2 second (λ x y. refl) c.skip.ensures c.formal.ensures
