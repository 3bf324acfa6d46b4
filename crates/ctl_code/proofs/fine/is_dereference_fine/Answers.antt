use Rattle.std.proofs.Common.{◌+◌, refl}
use Rattle.ctl_program.specs.declared.types.Ty.TheVariants.{Integer, Record}
use Rattle.ctl_code.specs.Kinds.{stack_at}
use Rattle.ctl_code.specs.Valid.{Leads}
use Rattle.ctl_code.specs.declared.kinds.Kind.TheVariants.{Operand}
use Rattle.std.specs.Prelude.{◌∷◌}
use Rattle.ctl_code.proofs.Shapes.{under_one, not_under_one}
use Rattle.ctl_code.proofs.fine.is_dereference_fine.Goals as goal

pub returns-then-is_operand : goal.returns-then-is_operand
returns-then-is_operand c =
    let step = under_one 0 c.args.at Integer (stack_at c.args.code.now.kinds c.args.place) (λ below. Leads c.args.code.now (c.args.place + 1) (Operand (Record c.args.record) ∷ below)) (c.if-is_operand.ensures.0 refl) in
    (λ t. step.0 (c.leads_on.ensures.0 t), λ u. c.leads_on.ensures.1 (step.1 u))

pub returns-else-is_operand : goal.returns-else-is_operand
returns-else-is_operand c =
    (λ t. cc (t, c.if-is_operand.false), λ u. absurd (not_under_one 0 c.args.at Integer (stack_at c.args.code.now.kinds c.args.place) (λ below. Leads c.args.code.now (c.args.place + 1) (Operand (Record c.args.record) ∷ below)) (λ top. cc (c.is_operand.ensures.1 top, c.if-is_operand.false)) u))
