use Rattle.ctl_code.specs.Kinds.{stack_at}
use Rattle.ctl_code.proofs.Shapes.{takes_not}
use Rattle.ctl_code.proofs.fine.gives_value.Goals as goal

pub returns-in-None : goal.returns-in-None
returns-in-None c =
    let stack = stack_at c.args.code.now.kinds c.args.place in
    (λ t. cc t, λ h. absurd (takes_not c.args.from c.args.ty stack (λ below. Unit {0}) c.in-None.ensures h))
