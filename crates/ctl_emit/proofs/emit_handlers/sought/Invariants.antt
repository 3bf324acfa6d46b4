-- What is emitted, and what is still to be emitted, make up the whole.
use Rattle.std.proofs.Common.{◌≡◌, ◌+◌, drop, length}
use Rattle.ctl_emitter.specs.Emitted.{lined, sought_code}
use Rattle.ctl_emit.proofs.emit_handlers.sought.Given as goal

abbrev pub invariant-loop-one : goal.invariant-loop-one
invariant-loop-one l =
    (lined (sought_code (drop l.one-index l.exceptions)) l.emitter ≡ lined (sought_code l.exceptions) l.fn.emitter)
    × (l.length + l.one-index ≡ length l.exceptions)
