use Rattle.ctl_parse.proofs.Steps.{barring, nesting}
use Rattle.std.proofs.Common.{ap}
use Rattle.ctl_parse.proofs.cursor.Parser.associations.Goals as goal

pub returns-then-open : goal.returns-then-open
returns-then-open c = nesting c.next_is-is_next.ensures (c.open.ensures.opened c.if-open.true) c.in_associations-inside.ensures c.close.ensures.left (ap (λ r. r.now) c.close.ensures.rest) c.close.ensures.fault

pub returns-else-open : goal.returns-else-open
returns-else-open c = barring c.next_is-is_next.ensures (c.open.ensures.unopened c.if-open.false)
