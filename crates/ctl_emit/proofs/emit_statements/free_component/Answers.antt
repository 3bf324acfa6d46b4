use Rattle.ctl_layout.specs.Values.{begun_by}
use Rattle.ctl_emitter.proofs.Emission.{on_ok}
use Rattle.ctl_emit.proofs.EmittedStatements.{part_freed}
use Rattle.ctl_emit.proofs.emit_statements.free_component.Goals as goal

pub returns : goal.returns
returns c = on_ok _ _ c.fail_behind.result c.fail_behind.ensures (
    part_freed c.args.access (begun_by c.args.of.now) c.args.steps.now c.args.record c.args.position c.args.emitter.now c.located.new.self c.over_operand.new.self c.fail_behind.new.emitter c.in_ok-located.ensures c.in_ok-over_operand.ensures)
