-- What has left, and what is still to leave, make up the whole.
use Rattle.std.proofs.Common.{◌≡◌, ◌-◌}
use Rattle.ctl_emitter.proofs.EmittedCalls.{left}
use Rattle.ctl_emitter.proofs.emit.Emitter.leave_operands.Given as goal

abbrev pub invariant-loop : goal.invariant-loop
invariant-loop l = left (l.count - l.counter) l.self ≡ left l.count l.fn.self
