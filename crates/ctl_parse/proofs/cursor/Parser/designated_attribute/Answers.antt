use Rattle.ctl_grammar.specs.Grammar.{designated_attribute}
use Rattle.ctl_grammar.specs.Nodes.{second}
use Rattle.ctl_parse.proofs.Steps.{choosing, making_2, passing, staying}
use Rattle.std.proofs.Common.{refl, sym, ◌∙◌}
use Rattle.ctl_parse.proofs.cursor.Parser.designated_attribute.Goals as goal

pub returns-then-next_is : goal.returns-then-next_is
unfolding designated_attribute
returns-then-next_is c = choosing (sym c.next_is.ensures ∙ c.if-next_is.true) (making_2 second (λ x y. refl) c.skip.ensures c.unknown.ensures)

pub returns-else-next_is : goal.returns-else-next_is
unfolding designated_attribute
returns-else-next_is c = passing (sym c.next_is.ensures ∙ c.if-next_is.false) (staying _)
