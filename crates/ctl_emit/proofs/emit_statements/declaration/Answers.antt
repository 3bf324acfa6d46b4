use Rattle.std.proofs.Common.{sym, ◌∙◌}
use Rattle.ctl_code.specs.Windows.{variable_at}
use Rattle.ctl_emitter.proofs.Emission.{on_ok}
use Rattle.ctl_emit.proofs.EmittedStatements.{elementary_emitted, scalar_emitted}
use Rattle.ctl_emit.proofs.emit_statements.declaration.Goals as goal

pub returns-in_ok-put-in-Integer : goal.returns-in_ok-put-in-Integer
returns-in_ok-put-in-Integer c = on_ok _ _ c.put-in-Integer-2.result c.put-in-Integer-2.ensures (λ e.
    let e0 = c.args.emitter.now in
    elementary_emitted c.args.slot c.args.ty e0 c.put-in-Integer-2.new.self c.in-Integer.is
    (scalar_emitted (variable_at e0.notes.standing 0 c.args.slot) c.args.slot c.args.ty c.in-Some.to e0 c.put-in-Integer.new.self c.put-in-Integer-2.new.self (sym c.in-Some.is ∙ c.newest_cell.ensures) c.in_ok-put-in-Integer.ensures e))
