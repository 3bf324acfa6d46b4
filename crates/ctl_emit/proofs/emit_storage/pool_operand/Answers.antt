use Rattle.ctl_emitter.proofs.Emission.{on_ok}
use Rattle.ctl_emitter.proofs.EmittedStorage.{pool_emitted}
use Rattle.ctl_emit.proofs.emit_storage.pool_operand.Goals as goal

pub returns : goal.returns
returns c = on_ok _ _ c.enter.result c.enter.ensures (pool_emitted c.args.pool c.args.emitter.now c.locate.new.self c.enter.new.self c.in_ok-locate.ensures)
