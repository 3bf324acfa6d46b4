use Rattle.ctl_grammar.specs.Form.{pair, tag}
use Rattle.ctl_grammar.specs.Grammar.{access, behind, definition, extension, limited_record}
use Rattle.ctl_grammar.specs.Label as labels
use Rattle.ctl_grammar.specs.Nodes.{no}
use Rattle.ctl_parse.proofs.Steps.{choosing, making, passing}
use Rattle.std.proofs.Common.{refl, sym, ◌∙◌}
use Rattle.ctl_parse.proofs.cursor.Parser.definition.Goals as goal

pub returns-then-next_is : goal.returns-then-next_is
unfolding definition limited_record extension access behind
returns-then-next_is c = choosing (sym c.next_is.ensures ∙ c.if-next_is.true) (c.limited_record.ensures)

pub returns-then-next_is-2 : goal.returns-then-next_is-2
unfolding definition limited_record extension access behind
returns-then-next_is-2 c = passing (sym c.next_is.ensures ∙ c.if-next_is.false) (choosing (sym c.next_is-else-next_is.ensures ∙ c.if-next_is-2.true) (c.extension.ensures))

pub returns-then-next_is-3 : goal.returns-then-next_is-3
unfolding definition limited_record extension access behind
returns-then-next_is-3 c = passing (sym c.next_is.ensures ∙ c.if-next_is.false) (passing (sym c.next_is-else-next_is.ensures ∙ c.if-next_is-2.false) (choosing (sym c.next_is-else-next_is-2.ensures ∙ c.if-next_is-3.true) (c.access.ensures)))

pub returns-else-next_is-3 : goal.returns-else-next_is-3
unfolding definition limited_record extension access behind
returns-else-next_is-3 c = passing (sym c.next_is.ensures ∙ c.if-next_is.false) (passing (sym c.next_is-else-next_is.ensures ∙ c.if-next_is-2.false) (passing (sym c.next_is-else-next_is-2.ensures ∙ c.if-next_is-3.false) (making (λ v. tag labels.Record (pair no v)) (λ v. refl) c.recorded-components.ensures)))
