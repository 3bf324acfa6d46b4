use Rattle.ctl_emitter.proofs.EmittedValues.{taken_is}
use Rattle.ctl_emitter.proofs.emit.Emitter.take.Goals as goal

pub returns : goal.returns
returns c = taken_is c.args.instr c.args.from c.args.self.now c.put.new.self c.release.new.self c.in_ok-put.ensures c.release.ensures
