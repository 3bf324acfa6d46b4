use Rattle.ctl_layout.specs.Values.{value_code}
use Rattle.ctl_emitter.proofs.EmittedStorage.{allocate_emitted}
use Rattle.ctl_emit.proofs.emit_storage.take_block.Goals as goal

pub returns : goal.returns
returns c =
    allocate_emitted c.args.pool c.args.address (value_code c.args.size.now) (value_code c.args.alignment.now) c.out_to-out.result c.args.emitter.now c.pool_operand.new.emitter c.request.new.emitter c.put.new.self c.leave_operands.new.self
    c.out_to-out.ensures c.in_ok-pool_operand.ensures c.in_ok-request.ensures c.in_ok-put.ensures c.leave_operands.ensures
