use Rattle.std.proofs.Common.{◌+◌, ap, sym, ◌∙◌, drop}
use Rattle.std.proofs.lemmas.List.{drop_all}
use Rattle.ctl_emitter.specs.Emitted.{imaged}
use Rattle.ctl_layout.proofs.Turns.{turn_of}
use Rattle.ctl_emitter.proofs.EmittedTexts.{next_piece, no_piece}
use Rattle.ctl_emitter.proofs.emit.Emitter.pieces.Goals as goal

pub loop-piece-preserved : goal.loop-piece-preserved
loop-piece-preserved c =
    let all = c.args.pieces.now in
    let i = c.loop-piece.piece-index in
    let x = c.piece-item.result in
    next_piece x (drop (i + 1) all) c.loop-piece.self c.piece.new.self c.in_ok-piece.ensures
    ∙ turn_of (λ xs. imaged xs c.loop-piece.self) all i x c.loop-piece-test.true c.piece-item.is
    ∙ c.loop-piece.invariant

pub returns : goal.returns
returns c =
    no_piece c.loop-piece.self
    ∙ ap (λ xs. imaged xs c.loop-piece.self) (sym (drop_all c.loop-piece.piece-index c.args.pieces.now c.loop-piece-test.false))
    ∙ c.loop-piece.invariant
