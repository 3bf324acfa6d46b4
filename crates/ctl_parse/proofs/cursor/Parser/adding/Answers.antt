use Rattle.std.proofs.Common.{refl, sym, ◌∙◌}
use Rattle.ctl_grammar.specs.Grammar.{adding}
use Rattle.ctl_grammar.specs.Label as labels
use Rattle.ctl_grammar.specs.Nodes.{alone}
use Rattle.ctl_parse.proofs.Steps.{making, choosing, passing}
use Rattle.ctl_parse.proofs.cursor.Parser.adding.Goals as goal

pub returns-then-next_is-clause-given : goal.returns-then-next_is-clause-given
unfolding adding
returns-then-next_is-clause-given c = choosing (sym c.next_is.ensures ∙ c.if-next_is.true) (making (λ v. alone labels.Plus) (λ v. refl) c.skip.ensures)

pub returns-then-next_is-2-clause-given : goal.returns-then-next_is-2-clause-given
unfolding adding
returns-then-next_is-2-clause-given c = passing (sym c.next_is.ensures ∙ c.if-next_is.false) (choosing (sym c.next_is-else-next_is.ensures ∙ c.if-next_is-2.true) (making (λ v. alone labels.Minus) (λ v. refl) c.skip-then-next_is-2.ensures))

pub returns-else-next_is-2-clause-given : goal.returns-else-next_is-2-clause-given
unfolding adding
returns-else-next_is-2-clause-given c = passing (sym c.next_is.ensures ∙ c.if-next_is.false) (passing (sym c.next_is-else-next_is.ensures ∙ c.if-next_is-2.false) (making (λ v. alone labels.Concatenate) (λ v. refl) c.skip-else-next_is-2.ensures))
