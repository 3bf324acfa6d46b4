use Rattle.ctl_code.specs.declared.code.Instr.TheVariants as InstrOf
use Rattle.ctl_layout.specs.Layout.{pool_type, request}
use Rattle.ctl_layout.specs.Values.{value_code}
use Rattle.ctl_emitter.proofs.EmittedStorage.{values_then_emitted}
use Rattle.ctl_emit.proofs.emit_storage.request_into.Goals as goal

pub returns : goal.returns
returns c =
    values_then_emitted (request (value_code c.args.size.now) (value_code c.args.alignment.now)) (InstrOf.TakeBlockInto pool_type c.args.record c.args.position) 4 c.args.emitter.now c.request.new.emitter c.put.new.self c.leave_operands.new.self
    c.in_ok-request.ensures c.in_ok-put.ensures c.leave_operands.ensures
