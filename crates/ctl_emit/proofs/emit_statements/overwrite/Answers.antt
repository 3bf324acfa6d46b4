use Rattle.ctl_emitter.proofs.EmittedParts.{overwritten}
use Rattle.ctl_emit.proofs.emit_statements.overwrite.Goals as goal

pub returns : goal.returns
returns c =
    overwritten c.args.target c.args.source c.args.record c.args.emitter.now c.source.new.self c.enter.new.self c.source-2.new.self c.over_operand.new.self c.leave.new.self
    c.in_ok-source.ensures c.in_ok-enter.ensures c.in_ok-source-2.ensures c.in_ok-over_operand.ensures c.leave.ensures
