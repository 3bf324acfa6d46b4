use Rattle.std.proofs.Common.{refl}
use Rattle.ctl_program.specs.declared.types.Ty.TheVariants.{Record}
use Rattle.ctl_code.specs.Kinds.{stack_at}
use Rattle.ctl_code.specs.Valid.{DropsPart}
use Rattle.ctl_code.proofs.Shapes.{under_top, not_under_top}
use Rattle.ctl_code.proofs.fine.drops_parts.Goals as goal

pub returns-then-is_part : goal.returns-then-is_part
returns-then-is_part c =
    let step = under_top 0 (Record c.args.record) (stack_at c.args.code.now.kinds c.args.place) (DropsPart c.args.code.now c.args.place c.args.record) (c.if-is_part.ensures.0 refl) in
    (λ t. step.0 (c.drops_part.ensures.0 t), λ u. c.drops_part.ensures.1 (step.1 u))

pub returns-else-is_part : goal.returns-else-is_part
returns-else-is_part c =
    (λ t. cc (t, c.if-is_part.false), λ u. absurd (not_under_top 0 (Record c.args.record) (stack_at c.args.code.now.kinds c.args.place) (DropsPart c.args.code.now c.args.place c.args.record) (λ top. cc (c.is_part.ensures.1 top, c.if-is_part.false)) u))
