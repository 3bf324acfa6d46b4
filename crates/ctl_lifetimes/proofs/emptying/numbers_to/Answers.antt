use Rattle.std.proofs.Common.{◌-◌, arith, subst, sym}
use Rattle.ctl_code.specs.Table.{numbers_to}
use Rattle.ctl_frames.specs.Owned.{AreFromTo}
use Rattle.ctl_lifetimes.proofs.Candidates.{numbers_from, numbers_none}
use Rattle.ctl_lifetimes.proofs.emptying.numbers_to.Goals as goal

pub returns-then-count-eq0 : goal.returns-then-count-eq0
returns-then-count-eq0 c = subst (λ k. AreFromTo 1 0 (numbers_to c.args.last k)) (sym c.if-count-eq0.true) (numbers_none 1 0 (omega arith))

pub returns-then-others-last : goal.returns-then-others-last
returns-then-others-last c =
    let some = c.if-count-eq0.false in
    let less = c.if-others-last.true in
    numbers_from (c.args.last - (c.args.count - 1)) c.args.last c.args.count (omega (arith, some, less))

pub returns-else-others-last : goal.returns-else-others-last
returns-else-others-last c =
    let some = c.if-count-eq0.false in
    let more = c.if-others-last.false in
    numbers_from 0 c.args.last c.args.count (omega (arith, some, more))
