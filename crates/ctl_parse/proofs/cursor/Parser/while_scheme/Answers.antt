use Rattle.ctl_grammar.specs.Form.{pair, tag}
use Rattle.ctl_grammar.specs.Grammar.{while_scheme}
use Rattle.ctl_grammar.specs.Label as labels
use Rattle.ctl_grammar.specs.Nodes.{first, second}
use Rattle.ctl_parse.proofs.Keeping.{paired}
use Rattle.ctl_parse.proofs.Steps.{kept_first, kept_second, making, then}
use Rattle.std.proofs.Common.{ap}
use Rattle.ctl_parse.proofs.cursor.Parser.while_scheme.Goals as goal

pub returns : goal.returns
unfolding while_scheme
returns c = making (λ v. pair (first v) (tag labels.While (second v))) (λ v. paired (kept_first v) (ap (tag labels.While) (kept_second v))) (then c.mark-span.ensures c.expression-condition.ensures)
