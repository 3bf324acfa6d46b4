use Rattle.std.proofs.Common.{None, ap, sym, ◌∙◌}
use Rattle.ctl_layout.specs.Values.{denoted}
use Rattle.ctl_layout.specs.Layout.{return_record}
use Rattle.ctl_emitter.specs.Emitted.{stated}
use Rattle.ctl_emitter.proofs.Emission.{on_ok}
use Rattle.ctl_emitter.proofs.EmittedParts.{record_returned}
use Rattle.ctl_emit.proofs.emit_statements.return_record.Goals as goal

pub returns : goal.returns
returns c = on_ok _ _ c.over_operand.result c.over_operand.ensures (λ e.
    let x = c.in-Some.part in
    let t = c.args.record in
    let e0 = c.args.emitter.now in
    record_returned x t e0 c.source.new.self c.over_operand.new.self c.in_ok-source.ensures e
    ∙ ap (λ o. stated (return_record t o) None e0) (sym (ap denoted c.in-Some.is) ∙ c.copied.ensures))
