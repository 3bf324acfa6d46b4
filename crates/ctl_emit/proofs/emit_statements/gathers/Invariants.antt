-- What is emitted, and what is still to be emitted, make up the whole.
use Rattle.std.proofs.Common.{◌≡◌, drop}
use Rattle.ctl_layout.specs.Layout.{gathers_code}
use Rattle.ctl_emitter.specs.Emitted.{lined}
use Rattle.ctl_emit.proofs.emit_statements.gathers.Given as goal

abbrev pub invariant-loop-index : goal.invariant-loop-index
invariant-loop-index l = lined (gathers_code (drop l.index l.accesses) l.index) l.emitter ≡ lined (gathers_code l.accesses 0) l.fn.emitter
