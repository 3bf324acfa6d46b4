use Rattle.ctl_grammar.specs.Grammar.{optional_associations}
use Rattle.ctl_parse.proofs.Steps.{choosing, passing, staying}
use Rattle.std.proofs.Common.{sym, ◌∙◌}
use Rattle.ctl_parse.proofs.cursor.Parser.optional_associations.Goals as goal

pub returns-then-next_is : goal.returns-then-next_is
unfolding optional_associations
returns-then-next_is c = choosing (sym c.next_is.ensures ∙ c.if-next_is.true) (c.associations.ensures)

pub returns-else-next_is : goal.returns-else-next_is
unfolding optional_associations
returns-else-next_is c = passing (sym c.next_is.ensures ∙ c.if-next_is.false) (rw c.new.ensures (staying _))
