use Rattle.ctl_program.specs.declared.expression.Expr.{Expr}
use Rattle.ctl_program.specs.declared.expression.Operand.{Operand}
use Rattle.ctl_program.specs.declared.operators.BinaryOp.{BinaryOp}
use Rattle.ctl_typing.specs.Judgement.{Judgement, known}
use Rattle.ctl_typing.specs.Typing.{logical_operand}
use Rattle.ctl_typing.proofs.Turns.{put_behind}
use Rattle.ctl_typing.proofs.joining.truth_appended.Goals as goal

abbrev made : BinaryOp → Expr → Judgement Operand
made op v = known (logical_operand op v)

pub returns-in-Ok : goal.returns-in-Ok
returns-in-Ok c q old new judged =
    put_behind q (made c.args.op) c.args.done c.in-Ok.value c.operand_behind.result c.appended.result old new (rw c.in-Ok.is at judged) (c.operand_behind.ensures new) c.appended.ensures
