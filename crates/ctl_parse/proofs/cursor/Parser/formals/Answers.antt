use Rattle.ctl_grammar.specs.Grammar.{body}
use Rattle.ctl_parse.proofs.Steps.{barring, nesting}
use Rattle.std.proofs.Common.{ap}
use Rattle.ctl_parse.proofs.cursor.Parser.formals.Goals as goal

pub returns-then-open : goal.returns-then-open
unfolding body
returns-then-open c = nesting c.next_is-is_next.ensures (c.open.ensures.opened c.if-open.true) c.in_formals-inside.ensures c.close.ensures.left (ap (λ r. r.now) c.close.ensures.rest) c.close.ensures.fault

pub returns-else-open : goal.returns-else-open
unfolding body
returns-else-open c = barring c.next_is-is_next.ensures (c.open.ensures.unopened c.if-open.false)
