use Rattle.ctl_emitter.proofs.EmittedValues.{over_value_emitted}
use Rattle.ctl_emitter.proofs.emit.Emitter.over_value_and_address.Goals as goal

pub returns : goal.returns
returns c = over_value_emitted c.args.instr c.args.self.now c.enter.new.self c.over_address.new.self c.leave.new.self c.in_ok-enter.ensures c.in_ok-over_address.ensures c.leave.ensures
