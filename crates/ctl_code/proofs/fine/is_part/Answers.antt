use Rattle.ctl_code.specs.Kinds.{stack_at}
use Rattle.ctl_code.proofs.Lists.{get_by_drop, split_at}
use Rattle.ctl_code.proofs.fine.is_part.Goals as goal

pub returns : goal.returns
returns c =
    let stack = stack_at c.args.code.now.kinds c.args.place in
    (λ t. split_at c.args.before stack _ (c.has.ensures.0 t), λ h. c.has.ensures.1 (get_by_drop c.args.before stack _ _ h))
