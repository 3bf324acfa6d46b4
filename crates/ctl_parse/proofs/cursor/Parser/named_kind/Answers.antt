use Rattle.ctl_grammar.specs.Form.{none}
use Rattle.ctl_grammar.specs.Grammar.{named_kind}
use Rattle.ctl_parse.proofs.Steps.{choosing, making, passing}
use Rattle.std.proofs.Common.{refl, sym, ◌∙◌}
use Rattle.ctl_parse.proofs.cursor.Parser.named_kind.Goals as goal

pub returns-then-next_is : goal.returns-then-next_is
unfolding named_kind
returns-then-next_is c = choosing (sym c.next_is.ensures ∙ c.if-next_is.true) (making (λ v. none) (λ v. refl) c.skip.ensures)

pub returns-else-next_is : goal.returns-else-next_is
unfolding named_kind
returns-else-next_is c = passing (sym c.next_is.ensures ∙ c.if-next_is.false) (c.objects-objects.ensures)
