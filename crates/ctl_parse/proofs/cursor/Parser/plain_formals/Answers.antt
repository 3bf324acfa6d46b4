use Rattle.ctl_grammar.specs.Form.{none}
use Rattle.ctl_grammar.specs.Grammar.{in_formals, plain_formals}
use Rattle.ctl_parse.proofs.Steps.{choosing, making, passing, staying}
use Rattle.std.proofs.Common.{refl, sym, ◌∙◌}
use Rattle.ctl_parse.proofs.cursor.Parser.plain_formals.Goals as goal

pub returns-then-next_is : goal.returns-then-next_is
unfolding plain_formals in_formals
returns-then-next_is c = making (λ v. none) (λ v. refl) (choosing (sym c.next_is.ensures ∙ c.if-next_is.true) c.in_formals.ensures)

pub returns-else-next_is : goal.returns-else-next_is
unfolding plain_formals in_formals
returns-else-next_is c = making (λ v. none) (λ v. refl) (passing (sym c.next_is.ensures ∙ c.if-next_is.false) (staying _))
