use Rattle.std.proofs.Common.{sym, ◌∙◌}
use Rattle.ctl_code.specs.Windows.{variable_at}
use Rattle.ctl_layout.specs.Values.{value_code}
use Rattle.ctl_emitter.proofs.Emission.{on_ok}
use Rattle.ctl_emit.proofs.EmittedStatements.{valued_emitted}
use Rattle.ctl_emit.proofs.emit_statements.valued.Goals as goal

pub returns : goal.returns
returns c = on_ok _ _ c.put-2.result c.put-2.ensures (λ e.
    let e0 = c.args.emitter.now in
    valued_emitted (variable_at e0.notes.standing 0 c.args.slot) c.args.slot c.args.ty (value_code c.args.value.now) c.in-Some.to e0 c.expression.new.self c.put-2.new.self (sym c.in-Some.is ∙ c.newest_cell.ensures) c.in_ok-expression.ensures e)
