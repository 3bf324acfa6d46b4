use Rattle.ctl_emitter.proofs.Emission.{on_ok}
use Rattle.ctl_emit.proofs.EmittedStatements.{variable_freed}
use Rattle.ctl_emit.proofs.emit_statements.free_variable.Goals as goal

pub returns : goal.returns
returns c = on_ok _ _ c.fail_behind.result c.fail_behind.ensures (
    variable_freed c.args.access c.out_to-out.result c.args.variable c.args.emitter.now c.put.new.self c.fail_behind.new.emitter c.out_to-out.ensures c.in_ok-put.ensures)
