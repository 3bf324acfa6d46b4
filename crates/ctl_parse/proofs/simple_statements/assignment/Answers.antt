use Rattle.ctl_grammar.specs.Nodes.{assignment_of}
use Rattle.ctl_syntax.specs.declared.item.Statement.TheViews.{outs-Assignment, outs-Call}
use Rattle.ctl_parse.proofs.PartViews.{view_layer}
use Rattle.ctl_parse.specs.View.{name_node, optional, view}
use Rattle.std.proofs.Common.{ap, sym, ◌∙◌}
use Rattle.ctl_parse.proofs.simple_statements.assignment.Goals as goal

pub returns-in-Some : goal.returns-in-Some
returns-in-Some c = view_layer _ (outs-Assignment _ _ _) ∙ ap (λ x. assignment_of (name_node view c.args.name) (optional view x)) (sym c.in-Some.is)

pub returns-in-None : goal.returns-in-None
returns-in-None c = view_layer _ (outs-Call _ _) ∙ ap (λ x. assignment_of (name_node view c.args.name) (optional view x)) (sym c.in-None.is)
