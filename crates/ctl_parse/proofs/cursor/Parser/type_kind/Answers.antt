use Rattle.ctl_grammar.specs.Grammar.{type_kind}
use Rattle.ctl_grammar.specs.Nodes.{no, second}
use Rattle.ctl_parse.proofs.Steps.{choosing, making, making_2, passing, staying}
use Rattle.std.proofs.Common.{refl, sym, ◌∙◌}
use Rattle.ctl_parse.proofs.cursor.Parser.type_kind.Goals as goal

pub returns-then-next_is : goal.returns-then-next_is
unfolding type_kind
returns-then-next_is c = choosing (sym c.next_is.ensures ∙ c.if-next_is.true) (making_2 second (λ x y. refl) c.skip.ensures c.defined.ensures)

pub returns-else-next_is : goal.returns-else-next_is
unfolding type_kind
returns-else-next_is c = passing (sym c.next_is.ensures ∙ c.if-next_is.false) (making (λ v. no) (λ v. refl) (staying _))
