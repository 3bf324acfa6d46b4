use Rattle.ctl_layout.specs.Values.{value_code}
use Rattle.ctl_emitter.proofs.EmittedStorage.{deallocate_emitted}
use Rattle.ctl_emit.proofs.emit_storage.give_block.Goals as goal

pub returns : goal.returns
returns c =
    deallocate_emitted c.args.pool (value_code c.args.address.now) (value_code c.args.size.now) (value_code c.args.alignment.now) c.args.emitter.now c.pool_operand.new.emitter c.block_request.new.emitter c.put.new.self c.leave_operands.new.self
    c.in_ok-pool_operand.ensures c.in_ok-block_request.ensures c.in_ok-put.ensures c.leave_operands.ensures
