use Rattle.ctl_layout.specs.Values.{value_code}
use Rattle.ctl_emitter.proofs.Emission.{on_ok}
use Rattle.ctl_emit.proofs.EmittedStatements.{value_returned}
use Rattle.ctl_emit.proofs.emit_statements.return_value.Goals as goal

pub returns : goal.returns
returns c = on_ok _ _ c.take.result c.take.ensures (λ e.
    value_returned (value_code c.args.value.now) c.args.ty c.in_ok-from.from c.args.emitter.now c.held.new.self c.take.new.self c.in_ok-from.ensures.held c.in_ok-from.ensures.cell e)
