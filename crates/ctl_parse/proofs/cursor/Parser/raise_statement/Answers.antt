use Rattle.ctl_grammar.specs.Form.{at, pair, tag}
use Rattle.ctl_grammar.specs.Label as labels
use Rattle.ctl_parse.proofs.Forms.{transferring}
use Rattle.ctl_syntax.specs.declared.item.Statement.TheViews.{outs-Raise, outs-RaiseAgain}
use Rattle.ctl_parse.proofs.PartViews.{view_layer}
use Rattle.ctl_parse.specs.View.{mark_node, optional}
use Rattle.std.proofs.Common.{ap, refl, sym, ◌∙◌}
use Rattle.ctl_parse.proofs.cursor.Parser.raise_statement.Goals as goal

pub returns-in-Some : goal.returns-in-Some
returns-in-Some c = transferring (λ n. refl) (view_layer _ (outs-Raise _ _) ∙ ap (λ x. pair (at c.mark-span.result) (tag labels.Raise (optional mark_node x))) (sym c.in-Some.is)) c.mark-span.ensures c.raised-raised.ensures c.skip.ensures

pub returns-in-None : goal.returns-in-None
returns-in-None c = transferring (λ n. refl) (view_layer _ (outs-RaiseAgain _) ∙ ap (λ x. pair (at c.mark-span.result) (tag labels.Raise (optional mark_node x))) (sym c.in-None.is)) c.mark-span.ensures c.raised-raised.ensures c.skip.ensures
