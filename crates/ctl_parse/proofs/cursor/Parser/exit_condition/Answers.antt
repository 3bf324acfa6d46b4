use Rattle.ctl_grammar.specs.Form.{none, pair}
use Rattle.ctl_grammar.specs.Nodes.{second}
use Rattle.ctl_parse.proofs.Steps.{choosing, making_2, passing, staying}
use Rattle.std.proofs.Common.{refl, sym, ◌∙◌}
use Rattle.ctl_parse.proofs.cursor.Parser.exit_condition.Goals as goal

pub returns-then-next_is : goal.returns-then-next_is
returns-then-next_is c = choosing (sym c.next_is.ensures ∙ c.if-next_is.true) (making_2 (λ v. pair none (second v)) (λ x y. refl) c.skip.ensures c.expression-condition.ensures)

pub returns-else-next_is : goal.returns-else-next_is
returns-else-next_is c = passing (sym c.next_is.ensures ∙ c.if-next_is.false) (staying _)
