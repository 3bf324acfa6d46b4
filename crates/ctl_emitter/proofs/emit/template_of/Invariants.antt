-- The parts that are made, and those that are still to be made, make up the whole.
use Rattle.std.proofs.Common.{◌≡◌, ◌++◌, drop}
use Rattle.ctl_layout.specs.Texts.{parts_of}
use Rattle.ctl_emitter.proofs.emit.template_of.Given as goal

abbrev pub invariant-loop-piece : goal.invariant-loop-piece
invariant-loop-piece l = l.template ++ parts_of (drop l.piece-index l.pieces) ≡ parts_of l.pieces
