use Rattle.ctl_layout.specs.Values.{value_code}
use Rattle.ctl_emit.proofs.EmittedStatements.{pool_emitted}
use Rattle.ctl_emit.proofs.emit_statements.ordered_pool.Goals as goal

pub returns : goal.returns
returns c =
    pool_emitted c.args.slot c.args.record c.in-Some.order c.args.order (value_code c.args.first.now) (value_code c.args.second.now) c.height-at.result c.args.emitter.now c.discriminants.new.emitter c.put-2.new.self c.leave.new.self c.leave-2.new.self
    c.in-Some.is c.height-at.ensures c.in_ok-discriminants.ensures c.in_ok-put.ensures c.leave.ensures c.leave-2.ensures
