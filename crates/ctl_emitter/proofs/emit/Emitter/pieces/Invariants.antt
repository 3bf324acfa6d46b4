-- What is emitted, and what is still to be emitted, make up the whole.
use Rattle.std.proofs.Common.{◌≡◌, drop}
use Rattle.ctl_emitter.specs.Emitted.{imaged}
use Rattle.ctl_emitter.proofs.emit.Emitter.pieces.Given as goal

abbrev pub invariant-loop-piece : goal.invariant-loop-piece
invariant-loop-piece l = imaged (drop l.piece-index l.pieces) l.self ≡ imaged l.pieces l.fn.self
