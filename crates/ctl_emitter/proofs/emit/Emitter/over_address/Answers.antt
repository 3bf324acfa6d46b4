use Rattle.ctl_layout.specs.Values.{address_numbers}
use Rattle.ctl_emitter.proofs.EmittedStorage.{over_numbers_emitted}
use Rattle.ctl_emitter.proofs.emit.Emitter.over_address.Goals as goal

pub returns : goal.returns
returns c = over_numbers_emitted address_numbers c.args.instr c.args.self.now c.enter_numbers.new.self c.put.new.self c.leave_operands.new.self c.in_ok-enter_numbers.ensures c.in_ok-put.ensures c.leave_operands.ensures
