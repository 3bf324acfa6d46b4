-- What stands there, and what is still to be entered, make up the whole.
use Rattle.std.proofs.Common.{◌≡◌, ◌-◌}
use Rattle.ctl_emitter.proofs.EmittedCalls.{numbered}
use Rattle.ctl_emitter.proofs.emit.Emitter.enter_numbers.Given as goal

abbrev pub invariant-loop : goal.invariant-loop
invariant-loop l = numbered (l.count - l.counter) l.self ≡ numbered l.count l.fn.self
