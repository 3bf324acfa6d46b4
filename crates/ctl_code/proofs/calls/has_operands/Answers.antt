use Rattle.std.proofs.Common.{refl, arith}
use Rattle.ctl_code.specs.Kinds.{stack_at}
use Rattle.ctl_code.proofs.Actuals.{have_all, have_at, one_more}
use Rattle.ctl_code.proofs.calls.has_operands.Goals as goal

pub returns-then-not-is_operand_at : goal.returns-then-not-is_operand_at
returns-then-not-is_operand_at c =
    let stack = stack_at c.args.code.now.kinds c.args.place in
    (λ t. absurd (cc t), λ h. c.if-not-is_operand_at.ensures.1 (have_at c.args.count c.loop-depth.depth stack c.loop-depth-test.true h))

pub loop-depth-preserved : goal.loop-depth-preserved
loop-depth-preserved c = one_more c.loop-depth.depth (stack_at c.args.code.now.kinds c.args.place) c.loop-depth.invariant (c.if-not-is_operand_at.ensures.0 refl)

pub returns : goal.returns
returns c =
    let stack = stack_at c.args.code.now.kinds c.args.place in
    let long = c.loop-depth-test.false in
    (λ t. have_all c.args.count stack (λ i lt. c.loop-depth.invariant i (omega (arith, lt, long))), λ h. refl)
