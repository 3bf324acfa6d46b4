use Rattle.std.proofs.Common.{refl, sym, ◌∙◌}
use Rattle.ctl_grammar.specs.Form.{pair}
use Rattle.ctl_grammar.specs.Grammar.{sign}
use Rattle.ctl_grammar.specs.Label as labels
use Rattle.ctl_grammar.specs.Nodes.{alone}
use Rattle.ctl_parse.proofs.Steps.{making, choosing, passing, staying}
use Rattle.ctl_parse.proofs.cursor.Parser.sign.Goals as goal

pub returns-then-next_is-clause-given : goal.returns-then-next_is-clause-given
unfolding sign
returns-then-next_is-clause-given c = choosing (sym c.next_is.ensures ∙ c.if-next_is.true) (making (pair (alone labels.Plus)) (λ v. refl) c.mark-span.ensures)

pub returns-then-next_is-2-clause-given : goal.returns-then-next_is-2-clause-given
unfolding sign
returns-then-next_is-2-clause-given c = passing (sym c.next_is.ensures ∙ c.if-next_is.false) (choosing (sym c.next_is-else-next_is.ensures ∙ c.if-next_is-2.true) (making (pair (alone labels.Minus)) (λ v. refl) c.mark-span-then-next_is-2.ensures))

pub returns-else-next_is-2-clause-given : goal.returns-else-next_is-2-clause-given
unfolding sign
returns-else-next_is-2-clause-given c = passing (sym c.next_is.ensures ∙ c.if-next_is.false) (passing (sym c.next_is-else-next_is.ensures ∙ c.if-next_is-2.false) (staying _))
