use Rattle.ctl_grammar.specs.Grammar.{mode}
use Rattle.ctl_grammar.specs.Label as labels
use Rattle.ctl_grammar.specs.Nodes.{alone, second}
use Rattle.ctl_parse.proofs.Steps.{choosing, making, making_2, passing, staying}
use Rattle.std.proofs.Common.{refl, sym, ◌∙◌}
use Rattle.ctl_parse.proofs.cursor.Parser.mode.Goals as goal

pub returns-then-next_is : goal.returns-then-next_is
unfolding mode
returns-then-next_is c = choosing (sym c.next_is.ensures ∙ c.if-next_is.true) (making_2 second (λ x y. refl) c.skip.ensures c.mode_behind_in.ensures)

pub returns-then-next_is-2 : goal.returns-then-next_is-2
unfolding mode
returns-then-next_is-2 c = passing (sym c.next_is.ensures ∙ c.if-next_is.false) (choosing (sym c.next_is-else-next_is.ensures ∙ c.if-next_is-2.true) (making (λ v. alone labels.Out) (λ v. refl) c.skip-then-next_is-2.ensures))

pub returns-else-next_is-2 : goal.returns-else-next_is-2
unfolding mode
returns-else-next_is-2 c = passing (sym c.next_is.ensures ∙ c.if-next_is.false) (passing (sym c.next_is-else-next_is.ensures ∙ c.if-next_is-2.false) (making (λ v. alone labels.In) (λ v. refl) (staying _)))
