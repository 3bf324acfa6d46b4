-- What is emitted, and what is still to be emitted, make up the whole.
use Rattle.std.proofs.Common.{◌≡◌, ◌+◌, ◌*◌, ◌≤◌, drop, length, map}
use Rattle.ctl_layout.specs.Around.{new_operand}
use Rattle.ctl_emitter.specs.Emitted.{lined, passed}
use Rattle.ctl_layout.specs.Values.{actual_code, operator_of, others_code, value_code}
use Rattle.ctl_emitter.proofs.EmittedValues.{over_new}
use Rattle.ctl_emitter.proofs.emit.Emitter.+expressions.Given as goal

abbrev pub invariant-operators-loop-operand : goal.invariant-operators-loop-operand
invariant-operators-loop-operand l =
    (lined (over_new l.ty (map operator_of (drop l.operand-index l.operands)) l.to) l.self ≡ lined (over_new l.fn.ty (map operator_of l.operands) l.to) l.fn.self)
    × (l.following + l.operand-index ≡ length l.operands)
    × (l.base ≡ new_operand l.self.notes.standing)

abbrev pub invariant-others-loop-other : goal.invariant-others-loop-other
invariant-others-loop-other l = lined (others_code l.form (map value_code (drop l.other-index l.others))) l.self ≡ lined (others_code l.form (map value_code l.others)) l.fn.self

abbrev pub invariant-actuals-loop-actual : goal.invariant-actuals-loop-actual
invariant-actuals-loop-actual l = (passed l.over (map actual_code (drop l.actual-index l.actuals)) l.self ≡ passed 0 (map actual_code l.actuals) l.fn.self) × (l.over ≤ 3 * l.actual-index)
