use Rattle.ctl_layout.specs.Values.{value_code}
use Rattle.ctl_emitter.proofs.Emission.{on_ok}
use Rattle.ctl_emit.proofs.EmittedStatements.{given_emitted}
use Rattle.ctl_emit.proofs.emit_statements.with_value.Goals as goal

pub returns-in-Integer : goal.returns-in-Integer
returns-in-Integer c = on_ok _ _ c.valued.result c.valued.ensures (λ e. given_emitted c.args.slot c.args.ty (value_code c.args.value.now) c.args.emitter.now c.valued.new.emitter c.in-Integer.is e)
