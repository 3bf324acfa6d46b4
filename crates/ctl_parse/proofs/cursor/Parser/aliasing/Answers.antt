use Rattle.ctl_grammar.specs.Grammar.{flag}
use Rattle.ctl_grammar.specs.Nodes.{no, yes}
use Rattle.ctl_parse.proofs.Steps.{choosing, making, passing, staying}
use Rattle.std.proofs.Common.{refl, sym, ◌∙◌}
use Rattle.ctl_parse.proofs.cursor.Parser.aliasing.Goals as goal

pub returns-then-next_is : goal.returns-then-next_is
unfolding flag
returns-then-next_is c = choosing (sym c.next_is.ensures ∙ c.if-next_is.true) (making (λ v. yes) (λ v. refl) c.skip.ensures)

pub returns-else-next_is : goal.returns-else-next_is
unfolding flag
returns-else-next_is c = passing (sym c.next_is.ensures ∙ c.if-next_is.false) (making (λ v. no) (λ v. refl) (staying _))
