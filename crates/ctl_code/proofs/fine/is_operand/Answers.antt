use Rattle.std.proofs.Common.{refl, arith}
use Rattle.std.proofs.lemmas.Bool.Decides.{nat_tests}
use Rattle.ctl_code.specs.Kinds.{stack_at}
use Rattle.ctl_code.proofs.Lists.{get_by_drop, split_at}
use Rattle.ctl_code.proofs.fine.is_operand.Goals as goal

pub returns-then-has : goal.returns-then-has
returns-then-has c =
    let stack = stack_at c.args.code.now.kinds c.args.place in
    let top = split_at c.args.before stack _ (c.if-has.ensures.0 refl) in
    let high = c.height_at.ensures in
    (λ t. (top, grind (arith, nat_tests)), λ h. let e = h.1 in grind (arith, nat_tests))

pub returns-else-has : goal.returns-else-has
returns-else-has c = (λ t. cc (t, c.if-has.false), λ h. c.has.ensures.1 (get_by_drop c.args.before (stack_at c.args.code.now.kinds c.args.place) _ _ h.0))
