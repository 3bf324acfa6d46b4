use Rattle.std.proofs.Common.{map}
use Rattle.ctl_layout.specs.Values.{actual_code}
use Rattle.ctl_emitter.proofs.EmittedCalls.{reserved_emitted}
use Rattle.ctl_emitter.proofs.emit.Emitter.over_reserved.Goals as goal

pub returns : goal.returns
returns c =
    reserved_emitted c.args.instr c.count_numbers-numbers.result (map actual_code c.args.actuals.now) c.args.self.now c.reserve.new.self c.enter_numbers.new.self c.over_actuals.new.self c.leave_operands.new.self
    c.count_numbers-numbers.ensures.same c.in_ok-reserve.ensures c.in_ok-enter_numbers.ensures c.in_ok-over_actuals.ensures c.leave_operands.ensures
