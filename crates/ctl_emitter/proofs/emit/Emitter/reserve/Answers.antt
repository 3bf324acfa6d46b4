use Rattle.std.proofs.Common.{arith}
use Rattle.ctl_emitter.proofs.Emission.{on_ok}
use Rattle.ctl_emitter.proofs.EmittedCalls.{none_reserved, reserve_emitted}
use Rattle.ctl_emitter.proofs.emit.Emitter.reserve.Goals as goal

pub returns-then-numbers-eq0 : goal.returns-then-numbers-eq0
returns-then-numbers-eq0 c = none_reserved c.args.numbers c.args.self.now c.if-numbers-eq0.true

pub returns : goal.returns
returns c = on_ok _ _ c.put.result c.put.ensures (λ e. reserve_emitted c.args.numbers c.height-at.result c.args.self.now c.put.new.self (omega arith) c.height-at.ensures e)
