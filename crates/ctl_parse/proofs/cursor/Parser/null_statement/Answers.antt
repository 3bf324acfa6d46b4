use Rattle.ctl_grammar.specs.Form.{none, pair, tag}
use Rattle.ctl_grammar.specs.Label as labels
use Rattle.ctl_grammar.specs.Nodes.{first}
use Rattle.ctl_parse.proofs.Keeping.{paired}
use Rattle.ctl_syntax.specs.declared.item.Statement.TheViews.{outs-Null}
use Rattle.ctl_parse.proofs.PartViews.{view_layer}
use Rattle.ctl_parse.proofs.Steps.{being, kept_first, making, then}
use Rattle.std.proofs.Common.{refl}
use Rattle.ctl_parse.proofs.cursor.Parser.null_statement.Goals as goal

pub returns : goal.returns
returns c = being (view_layer _ (outs-Null _)) (making (λ v. pair (first v) (tag labels.NullStatement none)) (λ v. paired (kept_first v) refl) (then c.mark-span.ensures c.skip.ensures))
