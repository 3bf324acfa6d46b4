use Rattle.std.proofs.Common.{None, ap, sym, ◌∙◌, option_map}
use Rattle.ctl_emitter.specs.Emitted.{stated}
use Rattle.ctl_layout.specs.Values.{value_code}
use Rattle.ctl_layout.specs.Layout.{return, return_of}
use Rattle.ctl_emitter.proofs.Emission.{on_ok}
use Rattle.ctl_emit.proofs.emit_statements.leave_body.Goals as goal

pub returns-in-Some : goal.returns-in-Some
returns-in-Some c = on_ok _ _ c.leave_with.result c.leave_with.ensures (λ e.
    let e0 = c.args.emitter.now in
    e ∙ ap (λ ty. stated (return_of ty (value_code c.in-Some.value)) None e0) c.value_type.ensures
    ∙ ap (λ o. stated (return (option_map value_code o)) None e0) (sym c.in-Some.is))
