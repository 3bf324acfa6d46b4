use Rattle.std.proofs.Common.{◌+◌, refl}
use Rattle.ctl_code.specs.Kinds.{stack_at}
use Rattle.ctl_code.specs.Valid.{Leads}
use Rattle.ctl_code.proofs.Shapes.{bounded, not_bounded}
use Rattle.ctl_code.proofs.fine.is_for_fine.Goals as goal

pub returns-then-is_bounded : goal.returns-then-is_bounded
returns-then-is_bounded c =
    let stack = stack_at c.args.code.now.kinds c.args.place in
    let step = bounded c.args.low c.args.slot c.args.parameter stack (λ below. Leads c.args.code.now (c.args.place + 2) stack × Leads c.args.code.now (c.args.place + 1 + c.args.length) below) (c.if-is_bounded.ensures.0 refl) in
    (λ t. step.0 (c.leads_to_turn.ensures.0 t), λ h. c.leads_to_turn.ensures.1 (step.1 h))

pub returns-else-is_bounded : goal.returns-else-is_bounded
returns-else-is_bounded c =
    let stack = stack_at c.args.code.now.kinds c.args.place in
    (λ t. cc (t, c.if-is_bounded.false), λ h. absurd (not_bounded c.args.low c.args.slot c.args.parameter stack (λ below. Leads c.args.code.now (c.args.place + 2) stack × Leads c.args.code.now (c.args.place + 1 + c.args.length) below) (λ b. cc (c.is_bounded.ensures.1 b, c.if-is_bounded.false)) h))
