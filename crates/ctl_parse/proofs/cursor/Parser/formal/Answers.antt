use Rattle.ctl_grammar.specs.Form.{pair}
use Rattle.ctl_grammar.specs.Grammar.{formal}
use Rattle.ctl_grammar.specs.Nodes.{behind_3, first, part_3, second}
use Rattle.ctl_parse.proofs.Keeping.{kept_behind_3, kept_part_3, kept_second_first, paired}
use Rattle.ctl_parse.proofs.Steps.{making, then}
use Rattle.ctl_parse.proofs.cursor.Parser.formal.Goals as goal

pub returns : goal.returns
unfolding formal
returns c = making (λ v. pair (second (first v)) (pair (part_3 v) (behind_3 v))) (λ v. paired (kept_second_first v) (paired (kept_part_3 v) (kept_behind_3 v))) (then c.identifiers-names.ensures (then c.skip.ensures (then c.mode-mode.ensures c.dotted-mark.ensures)))
