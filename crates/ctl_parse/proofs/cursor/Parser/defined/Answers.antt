use Rattle.ctl_grammar.specs.Form.{none, pair}
use Rattle.ctl_grammar.specs.Grammar.{defined}
use Rattle.ctl_grammar.specs.Nodes.{yes}
use Rattle.ctl_parse.proofs.Steps.{choosing, making, passing}
use Rattle.std.proofs.Common.{refl, sym, ◌∙◌}
use Rattle.ctl_parse.proofs.cursor.Parser.defined.Goals as goal

pub returns-then-next_is : goal.returns-then-next_is
unfolding defined
returns-then-next_is c = choosing (sym c.next_is.ensures ∙ c.if-next_is.true) (making (λ v. yes) (λ v. refl) c.skip.ensures)

pub returns-else-next_is : goal.returns-else-next_is
unfolding defined
returns-else-next_is c = passing (sym c.next_is.ensures ∙ c.if-next_is.false) (making (λ v. pair none v) (λ v. refl) c.definition-definition.ensures)
