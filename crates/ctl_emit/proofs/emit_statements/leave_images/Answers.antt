use Rattle.std.proofs.Common.{◌+◌, ap, sym, ◌∙◌, drop}
use Rattle.std.proofs.lemmas.List.{drop_all}
use Rattle.ctl_layout.proofs.Turns.{turn_of}
use Rattle.ctl_emitter.proofs.EmittedTexts.{left, next_left, none_left}
use Rattle.ctl_emit.proofs.emit_statements.leave_images.Goals as goal

pub loop-piece-preserved : goal.loop-piece-preserved
loop-piece-preserved c =
    let all = c.args.pieces.now in
    let i = c.loop-piece.piece-index in
    let x = c.piece-item.result in
    next_left x (drop (i + 1) all) c.loop-piece.emitter c.leave_image.new.emitter c.leave_image.ensures
    ∙ turn_of (λ xs. left xs c.loop-piece.emitter) all i x c.loop-piece-test.true c.piece-item.is
    ∙ c.loop-piece.invariant

pub returns : goal.returns
returns c =
    none_left c.loop-piece.emitter
    ∙ ap (λ xs. left xs c.loop-piece.emitter) (sym (drop_all c.loop-piece.piece-index c.args.pieces.now c.loop-piece-test.false))
    ∙ c.loop-piece.invariant
