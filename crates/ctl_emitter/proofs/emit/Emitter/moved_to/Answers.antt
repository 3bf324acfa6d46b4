use Rattle.ctl_emitter.proofs.EmittedValues.{not_moved}
use Rattle.ctl_emitter.proofs.emit.Emitter.moved_to.Goals as goal

pub returns-in-Operand : goal.returns-in-Operand
returns-in-Operand c = not_moved c.args.to c.args.ty c.args.self.now c.in-Operand.is
