-- What is emitted, and what is still to be emitted, make up the whole.
use Rattle.std.proofs.Common.{◌≡◌, ◌+◌, ◌*◌, ◌≤◌, drop, length, map}
use Rattle.ctl_emitter.specs.Emitted.{lined}
use Rattle.ctl_layout.specs.Values.{actual_code, backs_code}
use Rattle.ctl_emitter.proofs.emit.Emitter.copies_back.Given as goal

abbrev pub invariant-loop-one : goal.invariant-loop-one
invariant-loop-one l =
    (lined (backs_code (map actual_code (drop l.one-index l.actuals)) l.at l.below) l.self ≡ lined (backs_code (map actual_code l.actuals) l.fn.at (length l.actuals)) l.fn.self)
    × (l.at ≡ l.fn.at + l.one-index)
    × (l.depth + l.one-index ≡ length l.actuals)
    × (l.below ≤ length l.actuals + 2 * l.one-index)
