use Rattle.ctl_grammar.specs.Form.{pair}
use Rattle.ctl_grammar.specs.Grammar.{component}
use Rattle.ctl_grammar.specs.Nodes.{first, part_3, part_4, second}
use Rattle.ctl_parse.proofs.Keeping.{kept_part_3, kept_part_4, kept_second_first, paired}
use Rattle.ctl_parse.proofs.Steps.{making, then}
use Rattle.ctl_parse.proofs.cursor.Parser.component.Goals as goal

pub returns : goal.returns
unfolding component
returns c = making (λ v. pair (second (first v)) (pair (part_3 v) (part_4 v))) (λ v. paired (kept_second_first v) (paired (kept_part_3 v) (kept_part_4 v))) (then c.identifiers-names.ensures (then c.skip.ensures (then c.dotted-mark.ensures (then c.optional_value-default.ensures c.skip-2.ensures))))
