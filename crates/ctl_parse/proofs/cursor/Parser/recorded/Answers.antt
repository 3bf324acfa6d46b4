use Rattle.ctl_grammar.specs.Grammar.{null_record, recorded}
use Rattle.ctl_parse.proofs.Steps.{choosing, passing}
use Rattle.std.proofs.Common.{sym, ◌∙◌}
use Rattle.ctl_parse.proofs.cursor.Parser.recorded.Goals as goal

pub returns-then-next_is : goal.returns-then-next_is
unfolding recorded null_record
returns-then-next_is c = choosing (sym c.next_is.ensures ∙ c.if-next_is.true) (c.null_record.ensures)

pub returns-else-next_is : goal.returns-else-next_is
unfolding recorded null_record
returns-else-next_is c = passing (sym c.next_is.ensures ∙ c.if-next_is.false) (c.full_record.ensures)
