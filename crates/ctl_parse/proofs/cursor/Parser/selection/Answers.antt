use Rattle.std.proofs.Common.{refl}
use Rattle.ctl_grammar.specs.Grammar.{selection}
use Rattle.ctl_grammar.specs.Nodes.{second}
use Rattle.ctl_parse.proofs.Steps.{making_2}
use Rattle.ctl_parse.proofs.cursor.Parser.selection.Goals as goal

pub returns : goal.returns
unfolding selection
returns c = making_2 second (λ x y. refl) c.skip.ensures c.selected.ensures
