use Rattle.ctl_grammar.specs.Form.{none, pair}
use Rattle.ctl_parse.proofs.Steps.{choosing, making, passing, staying}
use Rattle.std.proofs.Common.{refl, sym, ◌∙◌}
use Rattle.ctl_parse.proofs.cursor.Parser.returned.Goals as goal

pub returns-then-at_expression : goal.returns-then-at_expression
returns-then-at_expression c = choosing (sym c.at_expression.ensures ∙ c.if-at_expression.true) (making (λ v. pair none v) (λ v. refl) c.expression-value.ensures)

pub returns-else-at_expression : goal.returns-else-at_expression
returns-else-at_expression c = passing (sym c.at_expression.ensures ∙ c.if-at_expression.false) (staying _)
