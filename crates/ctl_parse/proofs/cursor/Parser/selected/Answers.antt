use Rattle.std.proofs.Common.{refl, sym, ◌∙◌}
use Rattle.ctl_grammar.specs.Nodes.{selector_of, all_of_access}
use Rattle.ctl_parse.proofs.Steps.{making, choosing, passing}
use Rattle.ctl_parse.proofs.cursor.Parser.selected.Goals as goal

pub returns-then-next_is : goal.returns-then-next_is
returns-then-next_is c = choosing (sym c.next_is.ensures ∙ c.if-next_is.true) (making all_of_access (λ v. refl) c.mark-span.ensures)

pub returns-else-next_is : goal.returns-else-next_is
returns-else-next_is c = passing (sym c.next_is.ensures ∙ c.if-next_is.false) (making selector_of (λ v. refl) c.identifier-selector.ensures)
