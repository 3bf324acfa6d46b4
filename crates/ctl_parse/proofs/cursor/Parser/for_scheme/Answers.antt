use Rattle.ctl_grammar.specs.Form.{pair, tag}
use Rattle.ctl_grammar.specs.Grammar.{for_scheme}
use Rattle.ctl_grammar.specs.Label as labels
use Rattle.ctl_grammar.specs.Nodes.{behind_5, first, part_2, part_4, part_5, second}
use Rattle.ctl_parse.proofs.Keeping.{kept_behind_5, kept_part_2, kept_part_4, kept_part_5, paired}
use Rattle.ctl_parse.proofs.Steps.{kept_first, kept_second, making, then}
use Rattle.std.proofs.Common.{ap, ◌∙◌}
use Rattle.ctl_parse.proofs.cursor.Parser.for_scheme.Goals as goal

pub returns : goal.returns
unfolding for_scheme
returns c = making (λ v. pair (first v) (tag labels.For (pair (part_2 v) (pair (part_4 v) (pair (part_5 v) (second (behind_5 v))))))) (λ v. paired (kept_first v) (ap (tag labels.For) (paired (kept_part_2 v) (paired (kept_part_4 v) (paired (kept_part_5 v) (kept_second (behind_5 v) ∙ ap second (kept_behind_5 v))))))) (then c.mark-span.ensures (then c.identifier-parameter.ensures (then c.skip.ensures (then c.direction-direction.ensures (then c.simple-low.ensures (then c.skip-2.ensures c.simple-high.ensures))))))
