use Rattle.ctl_grammar.specs.Form.{none}
use Rattle.ctl_grammar.specs.Grammar.{behind_start, in_formals}
use Rattle.ctl_parse.proofs.Steps.{choosing, making, passing, then}
use Rattle.std.proofs.Common.{refl, sym, ◌∙◌}
use Rattle.ctl_parse.proofs.cursor.Parser.behind_start.Goals as goal

pub returns-then-next_is : goal.returns-then-next_is
unfolding behind_start in_formals
returns-then-next_is c = choosing (sym c.next_is.ensures ∙ c.if-next_is.true) (making (λ v. none) (λ v. refl) (then c.in_formals.ensures c.skip.ensures))

pub returns-else-next_is : goal.returns-else-next_is
unfolding behind_start in_formals
returns-else-next_is c = passing (sym c.next_is.ensures ∙ c.if-next_is.false) (making (λ v. none) (λ v. refl) (then c.skip-else-next_is.ensures c.start_of_bare_body.ensures))
