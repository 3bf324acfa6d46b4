use Rattle.ctl_grammar.specs.Form.{pair}
use Rattle.ctl_grammar.specs.Grammar.{instance}
use Rattle.ctl_grammar.specs.Nodes.{first, part_2}
use Rattle.ctl_parse.proofs.Keeping.{kept_part_2, paired}
use Rattle.ctl_parse.proofs.Steps.{kept_first, making, then}
use Rattle.ctl_parse.proofs.cursor.Parser.instance.Goals as goal

pub returns : goal.returns
unfolding instance
returns c = making (λ v. pair (first v) (part_2 v)) (λ v. paired (kept_first v) (kept_part_2 v)) (then c.behind-generic.ensures (then c.associations-actuals.ensures c.skip.ensures))
