use Rattle.ctl_layout.specs.Values.{value_code}
use Rattle.ctl_emitter.proofs.EmittedParts.{part_stored}
use Rattle.ctl_emit.proofs.emit_statements.store_part.Goals as goal

pub returns : goal.returns
returns c =
    part_stored (value_code c.args.value.now) c.args.record c.args.position c.value_type-ty.result c.in_ok-from.from c.args.emitter.now c.enter.new.self c.held.new.self c.take.new.self c.leave.new.self
    c.value_type-ty.ensures c.in_ok-enter.ensures c.in_ok-from.ensures.held c.in_ok-from.ensures.cell c.in_ok-take.ensures c.leave.ensures
