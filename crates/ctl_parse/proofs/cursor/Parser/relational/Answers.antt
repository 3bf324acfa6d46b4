use Rattle.std.proofs.Common.{refl, sym, ◌∙◌}
use Rattle.ctl_grammar.specs.Grammar.{relational}
use Rattle.ctl_grammar.specs.Label as labels
use Rattle.ctl_grammar.specs.Nodes.{alone}
use Rattle.ctl_parse.proofs.Steps.{making, choosing, passing}
use Rattle.ctl_parse.proofs.cursor.Parser.relational.Goals as goal

pub returns-then-next_is : goal.returns-then-next_is
unfolding relational
returns-then-next_is c = choosing (sym c.next_is.ensures ∙ c.if-next_is.true) (making (λ v. alone labels.Equal) (λ v. refl) c.skip.ensures)

pub returns-then-next_is-2 : goal.returns-then-next_is-2
unfolding relational
returns-then-next_is-2 c = passing (sym c.next_is.ensures ∙ c.if-next_is.false) (choosing (sym c.next_is-else-next_is.ensures ∙ c.if-next_is-2.true) (making (λ v. alone labels.NotEqual) (λ v. refl) c.skip-then-next_is-2.ensures))

pub returns-then-next_is-3 : goal.returns-then-next_is-3
unfolding relational
returns-then-next_is-3 c = passing (sym c.next_is.ensures ∙ c.if-next_is.false) (passing (sym c.next_is-else-next_is.ensures ∙ c.if-next_is-2.false) (choosing (sym c.next_is-else-next_is-2.ensures ∙ c.if-next_is-3.true) (making (λ v. alone labels.Less) (λ v. refl) c.skip-then-next_is-3.ensures)))

pub returns-then-next_is-4 : goal.returns-then-next_is-4
unfolding relational
returns-then-next_is-4 c = passing (sym c.next_is.ensures ∙ c.if-next_is.false) (passing (sym c.next_is-else-next_is.ensures ∙ c.if-next_is-2.false) (passing (sym c.next_is-else-next_is-2.ensures ∙ c.if-next_is-3.false) (choosing (sym c.next_is-else-next_is-3.ensures ∙ c.if-next_is-4.true) (making (λ v. alone labels.LessEqual) (λ v. refl) c.skip-then-next_is-4.ensures))))

pub returns-then-next_is-5 : goal.returns-then-next_is-5
unfolding relational
returns-then-next_is-5 c = passing (sym c.next_is.ensures ∙ c.if-next_is.false) (passing (sym c.next_is-else-next_is.ensures ∙ c.if-next_is-2.false) (passing (sym c.next_is-else-next_is-2.ensures ∙ c.if-next_is-3.false) (passing (sym c.next_is-else-next_is-3.ensures ∙ c.if-next_is-4.false) (choosing (sym c.next_is-else-next_is-4.ensures ∙ c.if-next_is-5.true) (making (λ v. alone labels.Greater) (λ v. refl) c.skip-then-next_is-5.ensures)))))

pub returns-else-next_is-5 : goal.returns-else-next_is-5
unfolding relational
returns-else-next_is-5 c = passing (sym c.next_is.ensures ∙ c.if-next_is.false) (passing (sym c.next_is-else-next_is.ensures ∙ c.if-next_is-2.false) (passing (sym c.next_is-else-next_is-2.ensures ∙ c.if-next_is-3.false) (passing (sym c.next_is-else-next_is-3.ensures ∙ c.if-next_is-4.false) (passing (sym c.next_is-else-next_is-4.ensures ∙ c.if-next_is-5.false) (making (λ v. alone labels.GreaterEqual) (λ v. refl) c.skip-else-next_is-5.ensures)))))
