use Rattle.ctl_grammar.specs.Grammar.{objects}
use Rattle.ctl_parse.proofs.Steps.{then}
use Rattle.ctl_parse.proofs.cursor.Parser.objects.Goals as goal

pub returns : goal.returns
unfolding objects
returns c = then c.aliasing-aliasing.ensures (then c.constancy-constancy.ensures (then c.dotted-mark.ensures (then c.optional_associations-discriminants.ensures c.optional_value-value.ensures)))
