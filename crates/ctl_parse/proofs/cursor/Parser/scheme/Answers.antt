use Rattle.ctl_grammar.specs.Form.{none, pair, tag}
use Rattle.ctl_grammar.specs.Grammar.{for_scheme, scheme, while_scheme}
use Rattle.ctl_grammar.specs.Label as labels
use Rattle.ctl_parse.proofs.Steps.{choosing, making, passing, staying}
use Rattle.std.proofs.Common.{refl, sym, ◌∙◌}
use Rattle.ctl_parse.proofs.cursor.Parser.scheme.Goals as goal

pub returns-then-next_is : goal.returns-then-next_is
unfolding scheme while_scheme for_scheme
returns-then-next_is c = choosing (sym c.next_is.ensures ∙ c.if-next_is.true) (c.while_scheme.ensures)

pub returns-then-next_is-2 : goal.returns-then-next_is-2
unfolding scheme while_scheme for_scheme
returns-then-next_is-2 c = passing (sym c.next_is.ensures ∙ c.if-next_is.false) (choosing (sym c.next_is-else-next_is.ensures ∙ c.if-next_is-2.true) (c.for_scheme.ensures))

pub returns-else-next_is-2 : goal.returns-else-next_is-2
unfolding scheme while_scheme for_scheme
returns-else-next_is-2 c = passing (sym c.next_is.ensures ∙ c.if-next_is.false) (passing (sym c.next_is-else-next_is.ensures ∙ c.if-next_is-2.false) (making (λ v. pair none (tag labels.Endless none)) (λ v. refl) (staying _)))
