use Rattle.ctl_emitter.proofs.Emission.{on_ok}
use Rattle.ctl_emitter.proofs.EmittedParts.{nothing_called}
use Rattle.ctl_emit.proofs.emit_statements.drop_part.Goals as goal

pub returns : goal.returns
returns c = on_ok _ _ c.over_operand.result c.over_operand.ensures (nothing_called c.args.part c.args.emitter.now c.source.new.self c.over_operand.new.self c.in_ok-source.ensures)
