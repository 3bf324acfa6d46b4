use Rattle.std.proofs.Common.{refl, sym, ◌∙◌}
use Rattle.ctl_grammar.specs.Grammar.{attribute}
use Rattle.ctl_grammar.specs.Nodes.{access_of}
use Rattle.ctl_parse.proofs.Steps.{making, choosing, passing}
use Rattle.ctl_parse.proofs.cursor.Parser.attribute.Goals as goal

pub returns-then-next_is : goal.returns-then-next_is
unfolding attribute
returns-then-next_is c = choosing (sym c.next_is.ensures ∙ c.if-next_is.true) (making access_of (λ v. refl) c.mark-span.ensures)

pub returns-else-next_is : goal.returns-else-next_is
unfolding attribute
returns-else-next_is c = passing (sym c.next_is.ensures ∙ c.if-next_is.false) (c.named_attribute.ensures)
