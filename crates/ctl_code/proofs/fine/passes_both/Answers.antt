use Rattle.std.proofs.Common.{drop}
use Rattle.ctl_code.specs.Kinds.{stack_at}
use Rattle.ctl_code.specs.Valid.{Puts, Takes}
use Rattle.ctl_code.proofs.Shapes.{takes, takes_not}
use Rattle.ctl_code.proofs.fine.passes_both.Goals as goal

pub returns-in-Some : goal.returns-in-Some
returns-in-Some c =
    let stack = stack_at c.args.code.now.kinds c.args.place in
    let step = takes c.args.right c.args.op.operands stack (drop c.in-Some.under stack) (λ below. Takes c.args.left c.args.op.operands below (Puts c.args.code.now c.args.place c.args.to c.args.op.result)) c.in-Some.ensures.1 in
    (λ t. step.0 (c.passes.ensures.0 t), λ h. c.passes.ensures.1 (step.1 h))

pub returns-in-None : goal.returns-in-None
returns-in-None c =
    let stack = stack_at c.args.code.now.kinds c.args.place in
    (λ t. cc t, λ h. absurd (takes_not c.args.right c.args.op.operands stack (λ below. Takes c.args.left c.args.op.operands below (Puts c.args.code.now c.args.place c.args.to c.args.op.result)) c.in-None.ensures h))
