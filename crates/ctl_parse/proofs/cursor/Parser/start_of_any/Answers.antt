use Rattle.ctl_grammar.specs.Grammar.{start_of_function}
use Rattle.ctl_parse.proofs.Steps.{choosing, passing}
use Rattle.std.proofs.Common.{sym, ◌∙◌}
use Rattle.ctl_parse.proofs.cursor.Parser.start_of_any.Goals as goal

pub returns-then-next_is : goal.returns-then-next_is
unfolding start_of_function
returns-then-next_is c = choosing (sym c.next_is.ensures ∙ c.if-next_is.true) (c.start_of_function.ensures)

pub returns-else-next_is : goal.returns-else-next_is
unfolding start_of_function
returns-else-next_is c = passing (sym c.next_is.ensures ∙ c.if-next_is.false) (c.start_of_procedure.ensures)
