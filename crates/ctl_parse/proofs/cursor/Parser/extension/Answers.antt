use Rattle.ctl_grammar.specs.Form.{pair, tag}
use Rattle.ctl_grammar.specs.Grammar.{extension}
use Rattle.ctl_grammar.specs.Label as labels
use Rattle.ctl_grammar.specs.Nodes.{behind_2, first}
use Rattle.ctl_parse.proofs.Keeping.{kept_behind_2, paired}
use Rattle.ctl_parse.proofs.Steps.{kept_first, making, then}
use Rattle.std.proofs.Common.{ap}
use Rattle.ctl_parse.proofs.cursor.Parser.extension.Goals as goal

pub returns : goal.returns
unfolding extension
returns c = making (λ v. tag labels.Extension (pair (first v) (behind_2 v))) (λ v. ap (tag labels.Extension) (paired (kept_first v) (kept_behind_2 v))) (then c.behind-parent.ensures (then c.skip.ensures c.recorded-components.ensures))
