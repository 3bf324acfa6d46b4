use Rattle.std.proofs.Common.{sym, ◌∙◌}
use Rattle.ctl_layout.specs.Values.{value_code}
use Rattle.ctl_emitter.proofs.Emission.{on_ok}
use Rattle.ctl_emit.proofs.EmittedStatements.{assigned_out}
use Rattle.ctl_emit.proofs.emit_statements.assign_variable.Goals as goal

pub returns-in_ok-from-in-None : goal.returns-in_ok-from-in-None
returns-in_ok-from-in-None c = on_ok _ _ c.take.result c.take.ensures (λ e.
    let x = value_code c.args.value.now in
    let e0 = c.args.emitter.now in
    assigned_out c.args.variable x c.value_type-ty.result c.out_to-out.result c.in_ok-from-in-None.from e0 c.held.new.self c.take.new.self
    c.value_type-ty.ensures (sym c.in-None.is ∙ c.local_cell.ensures) c.out_to-out.ensures c.in_ok-from-in-None.ensures.held c.in_ok-from-in-None.ensures.cell e)
