-- What is emitted, and what is still to be emitted, make up the whole.
use Rattle.std.proofs.Common.{◌≡◌, drop}
use Rattle.ctl_layout.specs.Parts.{selects_code}
use Rattle.ctl_emitter.specs.Emitted.{lined}
use Rattle.ctl_emitter.proofs.emit.Emitter.selects.Given as goal

abbrev pub invariant-loop-index : goal.invariant-loop-index
invariant-loop-index l = lined (selects_code (drop l.index l.steps) l.record) l.self ≡ lined (selects_code l.steps l.record) l.fn.self
