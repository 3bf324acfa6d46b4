use Rattle.ctl_grammar.specs.Grammar.{mode_behind_in}
use Rattle.ctl_grammar.specs.Label as labels
use Rattle.ctl_grammar.specs.Nodes.{alone}
use Rattle.ctl_parse.proofs.Steps.{choosing, making, passing, staying}
use Rattle.std.proofs.Common.{refl, sym, ◌∙◌}
use Rattle.ctl_parse.proofs.cursor.Parser.mode_behind_in.Goals as goal

pub returns-then-next_is : goal.returns-then-next_is
unfolding mode_behind_in
returns-then-next_is c = choosing (sym c.next_is.ensures ∙ c.if-next_is.true) (making (λ v. alone labels.InOut) (λ v. refl) c.skip.ensures)

pub returns-else-next_is : goal.returns-else-next_is
unfolding mode_behind_in
returns-else-next_is c = passing (sym c.next_is.ensures ∙ c.if-next_is.false) (making (λ v. alone labels.In) (λ v. refl) (staying _))
