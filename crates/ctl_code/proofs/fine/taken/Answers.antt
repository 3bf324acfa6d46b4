use Rattle.std.proofs.Common.{◌≡◌, ◌+◌, ◌∷◌, drop, sym, ap, ◌∙◌}
use Rattle.ctl_code.specs.declared.kinds.Kind.TheVariants.{Operand}
use Rattle.ctl_code.specs.Kinds.{stack_at}
use Rattle.ctl_code.specs.Windows.{height}
use Rattle.ctl_code.proofs.Shapes.{below_one, taken_operand}
use Rattle.ctl_code.proofs.fine.taken.Goals as goal

pub returns-else-is_operand : goal.returns-else-is_operand
returns-else-is_operand c = λ below t.
    let stack = stack_at c.args.code.now.kinds c.args.place in
    let top = (taken_operand c.args.cell c.args.ty (drop c.args.before stack) below c.in-Operand.is).0 t in
    let left : drop (c.args.before + 1) stack ≡ below = below_one c.args.before stack below c.args.ty top.0 in
    cc (c.is_operand.ensures.1 (top.0 ∙ ap (λ rest. Operand c.args.ty ∷ rest) (sym left), top.1 ∙ ap height (sym left)), c.if-is_operand.false)
