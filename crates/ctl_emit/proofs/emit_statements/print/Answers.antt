use Rattle.std.proofs.Common.{ap, ◌∙◌}
use Rattle.ctl_emitter.specs.Emitted.{lined, one}
use Rattle.ctl_emitter.proofs.EmittedTexts.{print_emitted}
use Rattle.ctl_emit.proofs.emit_statements.print.Goals as goal

pub returns : goal.returns
returns c =
    print_emitted c.args.ends_line c.args.pieces.now c.args.emitter.now c.pieces.new.self c.text.new.self c.put.new.self c.leave_images.new.emitter c.in_ok-number.number c.height-first.result
    c.height-first.ensures c.in_ok-pieces.ensures c.in_ok-number.ensures.text c.in_ok-number.ensures.number
    (c.in_ok-put.ensures ∙ ap (λ i. lined (one i) c.text.new.self) c.print_of.ensures)
    c.leave_images.ensures
