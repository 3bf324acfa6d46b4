use Rattle.std.proofs.Common.{ap, sym, ◌∙◌}
use Rattle.ctl_layout.specs.Values.{denoted}
use Rattle.ctl_layout.specs.Layout.{copy}
use Rattle.ctl_emitter.specs.Emitted.{lined}
use Rattle.ctl_emitter.proofs.Emission.{on_ok}
use Rattle.ctl_emitter.proofs.EmittedParts.{copy_emitted}
use Rattle.ctl_emit.proofs.emit_statements.copy.Goals as goal

pub returns : goal.returns
returns c = on_ok _ _ c.over_operand.result c.over_operand.ensures (λ e.
    let x = c.in-Some.part in
    let t = c.args.record in
    let e0 = c.args.emitter.now in
    copy_emitted x c.args.slot t e0 c.source.new.self c.over_operand.new.self c.in_ok-source.ensures e
    ∙ ap (λ o. lined (copy c.args.slot t o).code e0) (sym (ap denoted c.in-Some.is) ∙ c.copied.ensures))
