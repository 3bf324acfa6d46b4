use Rattle.ctl_grammar.specs.Form.{none, pair}
use Rattle.ctl_grammar.specs.Grammar.{dotted, identifier}
use Rattle.ctl_parse.proofs.Steps.{choosing, making, passing, staying}
use Rattle.std.proofs.Common.{refl, sym, ◌∙◌}
use Rattle.ctl_parse.proofs.cursor.Parser.raised.Goals as goal

pub returns-then-next_is : goal.returns-then-next_is
unfolding dotted identifier
returns-then-next_is c = choosing (sym c.next_is.ensures ∙ c.if-next_is.true) (making (λ v. pair none v) (λ v. refl) c.dotted-mark.ensures)

pub returns-else-next_is : goal.returns-else-next_is
unfolding dotted identifier
returns-else-next_is c = passing (sym c.next_is.ensures ∙ c.if-next_is.false) (staying _)
