use Rattle.ctl_layout.specs.Values.{begun_by}
use Rattle.ctl_emitter.proofs.Emission.{on_ok}
use Rattle.ctl_emitter.proofs.EmittedStorage.{pool_and_part_emitted}
use Rattle.ctl_emit.proofs.emit_storage.pool_and_part.Goals as goal

pub returns : goal.returns
returns c = on_ok _ _ c.enter.result c.enter.ensures (
    pool_and_part_emitted c.args.pool (begun_by c.args.of.now) c.args.steps.now c.args.record c.args.emitter.now c.pool_operand.new.emitter c.located.new.self c.enter.new.self c.in_ok-pool_operand.ensures c.in_ok-located.ensures)
