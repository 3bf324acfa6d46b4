use Rattle.ctl_grammar.specs.Grammar.{start_of_bare_body}
use Rattle.ctl_parse.proofs.Steps.{choosing, passing}
use Rattle.std.proofs.Common.{sym, ◌∙◌}
use Rattle.ctl_parse.proofs.cursor.Parser.start_of_bare_body.Goals as goal

pub returns-then-next_is : goal.returns-then-next_is
unfolding start_of_bare_body
returns-then-next_is c = choosing (sym c.next_is.ensures ∙ c.if-next_is.true) (c.skip.ensures)

pub returns-then-next_is-2 : goal.returns-then-next_is-2
unfolding start_of_bare_body
returns-then-next_is-2 c = passing (sym c.next_is.ensures ∙ c.if-next_is.false) (choosing (sym c.next_is-else-next_is.ensures ∙ c.if-next_is-2.true) (c.skip-then-next_is-2.ensures))

pub returns-then-next_is-3 : goal.returns-then-next_is-3
unfolding start_of_bare_body
returns-then-next_is-3 c = passing (sym c.next_is.ensures ∙ c.if-next_is.false) (passing (sym c.next_is-else-next_is.ensures ∙ c.if-next_is-2.false) (choosing (sym c.next_is-else-next_is-2.ensures ∙ c.if-next_is-3.true) (c.skip-then-next_is-3.ensures)))

pub returns-then-next_is-4 : goal.returns-then-next_is-4
unfolding start_of_bare_body
returns-then-next_is-4 c = passing (sym c.next_is.ensures ∙ c.if-next_is.false) (passing (sym c.next_is-else-next_is.ensures ∙ c.if-next_is-2.false) (passing (sym c.next_is-else-next_is-2.ensures ∙ c.if-next_is-3.false) (choosing (sym c.next_is-else-next_is-3.ensures ∙ c.if-next_is-4.true) (c.skip-then-next_is-4.ensures))))

pub returns-then-next_is-5 : goal.returns-then-next_is-5
unfolding start_of_bare_body
returns-then-next_is-5 c = passing (sym c.next_is.ensures ∙ c.if-next_is.false) (passing (sym c.next_is-else-next_is.ensures ∙ c.if-next_is-2.false) (passing (sym c.next_is-else-next_is-2.ensures ∙ c.if-next_is-3.false) (passing (sym c.next_is-else-next_is-3.ensures ∙ c.if-next_is-4.false) (choosing (sym c.next_is-else-next_is-4.ensures ∙ c.if-next_is-5.true) (c.skip-then-next_is-5.ensures)))))

pub returns-then-next_is-6 : goal.returns-then-next_is-6
unfolding start_of_bare_body
returns-then-next_is-6 c = passing (sym c.next_is.ensures ∙ c.if-next_is.false) (passing (sym c.next_is-else-next_is.ensures ∙ c.if-next_is-2.false) (passing (sym c.next_is-else-next_is-2.ensures ∙ c.if-next_is-3.false) (passing (sym c.next_is-else-next_is-3.ensures ∙ c.if-next_is-4.false) (passing (sym c.next_is-else-next_is-4.ensures ∙ c.if-next_is-5.false) (choosing (sym c.next_is-else-next_is-5.ensures ∙ c.if-next_is-6.true) (c.skip-then-next_is-6.ensures))))))

pub returns-else-next_is-6 : goal.returns-else-next_is-6
unfolding start_of_bare_body
returns-else-next_is-6 c = passing (sym c.next_is.ensures ∙ c.if-next_is.false) (passing (sym c.next_is-else-next_is.ensures ∙ c.if-next_is-2.false) (passing (sym c.next_is-else-next_is-2.ensures ∙ c.if-next_is-3.false) (passing (sym c.next_is-else-next_is-3.ensures ∙ c.if-next_is-4.false) (passing (sym c.next_is-else-next_is-4.ensures ∙ c.if-next_is-5.false) (passing (sym c.next_is-else-next_is-5.ensures ∙ c.if-next_is-6.false) (c.skip-else-next_is-6.ensures))))))
