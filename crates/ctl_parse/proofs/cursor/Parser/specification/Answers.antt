use Rattle.ctl_grammar.specs.Grammar.{function, specification}
use Rattle.ctl_parse.proofs.Steps.{choosing, passing}
use Rattle.std.proofs.Common.{sym, ◌∙◌}
use Rattle.ctl_parse.proofs.cursor.Parser.specification.Goals as goal

pub returns-then-next_is : goal.returns-then-next_is
unfolding specification function
returns-then-next_is c = choosing (sym c.next_is.ensures ∙ c.if-next_is.true) (c.function.ensures)

pub returns-else-next_is : goal.returns-else-next_is
unfolding specification function
returns-else-next_is c = passing (sym c.next_is.ensures ∙ c.if-next_is.false) (c.procedure.ensures)
