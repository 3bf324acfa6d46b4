use Rattle.ctl_grammar.specs.Form.{pair, tag}
use Rattle.ctl_grammar.specs.Grammar.{limited_record}
use Rattle.ctl_grammar.specs.Label as labels
use Rattle.ctl_grammar.specs.Nodes.{second, yes}
use Rattle.ctl_parse.proofs.Steps.{kept_second, making, then}
use Rattle.std.proofs.Common.{ap}
use Rattle.ctl_parse.proofs.cursor.Parser.limited_record.Goals as goal

pub returns : goal.returns
unfolding limited_record
returns c = making (λ v. tag labels.Record (pair yes (second v))) (λ v. ap (λ n. tag labels.Record (pair yes n)) (kept_second v)) (then c.skip.ensures c.recorded-components.ensures)
