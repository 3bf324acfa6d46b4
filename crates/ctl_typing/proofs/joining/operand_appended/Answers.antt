use Rattle.ctl_program.specs.declared.expression.Operand.{Operand}
use Rattle.ctl_program.specs.declared.operators.BinaryOp.{BinaryOp}
use Rattle.ctl_typing.specs.declared.found.Typed.{Typed}
use Rattle.ctl_typing.specs.Judgement.{Judgement, known}
use Rattle.ctl_typing.specs.Typing.{operand_of, operator_of}
use Rattle.ctl_typing.proofs.Turns.{put_behind}
use Rattle.ctl_typing.proofs.joining.operand_appended.Goals as goal

abbrev made : BinaryOp → Typed → Judgement Operand
made o r = known (operand_of o r.ty r.value)

pub returns-in-Ok : goal.returns-in-Ok
returns-in-Ok c q old new judged =
    put_behind q (made (operator_of c.args.operator)) c.args.done c.in-Ok.typed c.operand_typed.result c.appended.result old new (rw c.in-Ok.is at judged) (c.operand_typed.ensures new) c.appended.ensures
