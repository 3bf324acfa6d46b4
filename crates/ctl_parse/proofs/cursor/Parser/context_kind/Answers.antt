use Rattle.ctl_grammar.specs.Form.{pair}
use Rattle.ctl_grammar.specs.Grammar.{context_kind}
use Rattle.ctl_grammar.specs.Label as labels
use Rattle.ctl_grammar.specs.Nodes.{alone}
use Rattle.ctl_parse.proofs.Steps.{choosing, making, passing}
use Rattle.std.proofs.Common.{refl, sym, ◌∙◌}
use Rattle.ctl_parse.proofs.cursor.Parser.context_kind.Goals as goal

pub returns-then-next_is : goal.returns-then-next_is
unfolding context_kind
returns-then-next_is c = choosing (sym c.next_is.ensures ∙ c.if-next_is.true) (making (λ v. pair v (alone labels.With)) (λ v. refl) c.mark-span.ensures)

pub returns-else-next_is : goal.returns-else-next_is
unfolding context_kind
returns-else-next_is c = passing (sym c.next_is.ensures ∙ c.if-next_is.false) (making (λ v. pair v (alone labels.Use)) (λ v. refl) c.mark-span-else-next_is.ensures)
