use Rattle.ctl_grammar.specs.Form.{pair}
use Rattle.ctl_grammar.specs.Grammar.{function}
use Rattle.ctl_grammar.specs.Nodes.{behind_4, first, part_2, part_3}
use Rattle.ctl_parse.proofs.Keeping.{kept_behind_4, kept_part_2, kept_part_3, paired}
use Rattle.ctl_parse.proofs.Steps.{kept_first, making, then}
use Rattle.ctl_parse.proofs.cursor.Parser.function.Goals as goal

pub returns : goal.returns
unfolding function
returns c = making (λ v. pair (first v) (pair (part_2 v) (pair (part_3 v) (behind_4 v)))) (λ v. paired (kept_first v) (paired (kept_part_2 v) (paired (kept_part_3 v) (kept_behind_4 v)))) (then c.mark-span.ensures (then c.identifier-name.ensures (then c.optional_formals-formals.ensures (then c.skip.ensures c.dotted-result.ensures))))
