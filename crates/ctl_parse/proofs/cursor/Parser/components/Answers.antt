use Rattle.ctl_grammar.specs.Form.{none}
use Rattle.ctl_grammar.specs.Grammar.{components}
use Rattle.ctl_parse.proofs.Steps.{choosing, making, passing, then}
use Rattle.std.proofs.Common.{refl, sym, ◌∙◌}
use Rattle.ctl_parse.proofs.cursor.Parser.components.Goals as goal

pub returns-then-next_is : goal.returns-then-next_is
unfolding components
returns-then-next_is c = choosing (sym c.next_is.ensures ∙ c.if-next_is.true) (rw c.new.ensures (making (λ v. none) (λ v. refl) (then c.skip.ensures c.skip-then-next_is.ensures)))

pub returns-else-next_is : goal.returns-else-next_is
unfolding components
returns-else-next_is c = passing (sym c.next_is.ensures ∙ c.if-next_is.false) (c.component_list.ensures)
