use Rattle.ctl_layout.specs.Values.{value_code}
use Rattle.ctl_emitter.proofs.Emission.{on_ok}
use Rattle.ctl_emit.proofs.EmittedStatements.{elementary_returned}
use Rattle.ctl_emit.proofs.emit_statements.leave_with.Goals as goal

pub returns-in-Integer : goal.returns-in-Integer
returns-in-Integer c = on_ok _ _ c.return_value.result c.return_value.ensures (λ e. elementary_returned (value_code c.args.value.now) c.args.ty c.args.emitter.now c.return_value.new.emitter c.in-Integer.is e)
