use Rattle.ctl_emitter.proofs.EmittedValues.{over_emitted}
use Rattle.ctl_emitter.proofs.emit.Emitter.over_operand.Goals as goal

pub returns : goal.returns
returns c = over_emitted c.args.ty c.args.instr c.args.self.now c.enter.new.self c.put.new.self c.leave.new.self c.in_ok-enter.ensures c.in_ok-put.ensures c.leave.ensures
