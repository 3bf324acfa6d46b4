use Rattle.ctl_grammar.specs.Form.{pair}
use Rattle.ctl_grammar.specs.Grammar.{context}
use Rattle.ctl_grammar.specs.Nodes.{first, part_2}
use Rattle.ctl_parse.proofs.Keeping.{kept_part_2, paired}
use Rattle.ctl_parse.proofs.Steps.{kept_first, making, then}
use Rattle.ctl_parse.proofs.cursor.Parser.context.Goals as goal

pub returns : goal.returns
unfolding context
returns c = making (λ v. pair (first v) (part_2 v)) (λ v. paired (kept_first v) (kept_part_2 v)) (then c.context_kind-kind.ensures (then c.dotted_list-units.ensures c.skip.ensures))
