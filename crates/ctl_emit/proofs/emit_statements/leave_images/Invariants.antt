-- What has left, and what is still to leave, make up the whole.
use Rattle.std.proofs.Common.{◌≡◌, drop}
use Rattle.ctl_emitter.proofs.EmittedTexts.{left}
use Rattle.ctl_emit.proofs.emit_statements.leave_images.Given as goal

abbrev pub invariant-loop-piece : goal.invariant-loop-piece
invariant-loop-piece l = left (drop l.piece-index l.pieces) l.emitter ≡ left l.pieces l.fn.emitter
