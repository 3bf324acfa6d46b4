use Rattle.std.proofs.Common.{◌+◌, drop}
use Rattle.ctl_program.specs.declared.types.Ty.TheVariants.{Boolean}
use Rattle.ctl_code.specs.Kinds.{stack_at}
use Rattle.ctl_code.specs.Valid.{Leads}
use Rattle.ctl_code.proofs.Shapes.{takes, takes_not}
use Rattle.ctl_code.proofs.fine.is_unless_fine.Goals as goal

pub returns-in-Some : goal.returns-in-Some
returns-in-Some c =
    let stack = stack_at c.args.code.now.kinds c.args.place in
    let step = takes c.args.from Boolean stack (drop c.in-Some.under stack) (λ below. Leads c.args.code.now (c.args.place + 1) below × Leads c.args.code.now (c.args.place + 1 + c.args.length) below) c.in-Some.ensures.1 in
    (λ t. step.0 (c.branches.ensures.0 t), λ h. c.branches.ensures.1 (step.1 h))

pub returns-in-None : goal.returns-in-None
returns-in-None c =
    let stack = stack_at c.args.code.now.kinds c.args.place in
    (λ t. cc t, λ h. absurd (takes_not c.args.from Boolean stack (λ below. Leads c.args.code.now (c.args.place + 1) below × Leads c.args.code.now (c.args.place + 1 + c.args.length) below) c.in-None.ensures h))
