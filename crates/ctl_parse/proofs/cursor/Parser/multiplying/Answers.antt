use Rattle.std.proofs.Common.{refl, sym, ◌∙◌}
use Rattle.ctl_grammar.specs.Grammar.{multiplying}
use Rattle.ctl_grammar.specs.Label as labels
use Rattle.ctl_grammar.specs.Nodes.{alone}
use Rattle.ctl_parse.proofs.Steps.{making, choosing, passing}
use Rattle.ctl_parse.proofs.cursor.Parser.multiplying.Goals as goal

pub returns-then-next_is-clause-given : goal.returns-then-next_is-clause-given
unfolding multiplying
returns-then-next_is-clause-given c = choosing (sym c.next_is.ensures ∙ c.if-next_is.true) (making (λ v. alone labels.Times) (λ v. refl) c.skip.ensures)

pub returns-then-next_is-2-clause-given : goal.returns-then-next_is-2-clause-given
unfolding multiplying
returns-then-next_is-2-clause-given c = passing (sym c.next_is.ensures ∙ c.if-next_is.false) (choosing (sym c.next_is-else-next_is.ensures ∙ c.if-next_is-2.true) (making (λ v. alone labels.Divide) (λ v. refl) c.skip-then-next_is-2.ensures))

pub returns-then-next_is-3-clause-given : goal.returns-then-next_is-3-clause-given
unfolding multiplying
returns-then-next_is-3-clause-given c = passing (sym c.next_is.ensures ∙ c.if-next_is.false) (passing (sym c.next_is-else-next_is.ensures ∙ c.if-next_is-2.false) (choosing (sym c.next_is-else-next_is-2.ensures ∙ c.if-next_is-3.true) (making (λ v. alone labels.Mod) (λ v. refl) c.skip-then-next_is-3.ensures)))

pub returns-else-next_is-3-clause-given : goal.returns-else-next_is-3-clause-given
unfolding multiplying
returns-else-next_is-3-clause-given c = passing (sym c.next_is.ensures ∙ c.if-next_is.false) (passing (sym c.next_is-else-next_is.ensures ∙ c.if-next_is-2.false) (passing (sym c.next_is-else-next_is-2.ensures ∙ c.if-next_is-3.false) (making (λ v. alone labels.Rem) (λ v. refl) c.skip-else-next_is-3.ensures)))
