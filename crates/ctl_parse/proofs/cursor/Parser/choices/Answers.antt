use Rattle.ctl_grammar.specs.Form.{none}
use Rattle.ctl_grammar.specs.Grammar.{choices, dotted_list}
use Rattle.ctl_parse.proofs.Steps.{being_sound, choosing, making, passing}
use Rattle.ctl_parse.proofs.Associations.{some_exceptions}
use Rattle.std.proofs.Common.{refl, sym, ◌∙◌}
use Rattle.ctl_parse.proofs.cursor.Parser.choices.Goals as goal

pub returns-then-next_is : goal.returns-then-next_is
unfolding choices
returns-then-next_is c = choosing (sym c.next_is.ensures ∙ c.if-next_is.true) (making (λ v. none) (λ v. refl) c.skip.ensures)

pub returns-else-next_is : goal.returns-else-next_is
unfolding choices dotted_list
returns-else-next_is c = passing (sym c.next_is.ensures ∙ c.if-next_is.false) (being_sound (some_exceptions c.dotted_list-exceptions.result c.dotted_list-exceptions.ensures) c.dotted_list-exceptions.ensures)
