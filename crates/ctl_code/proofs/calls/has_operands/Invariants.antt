use Rattle.std.proofs.Common.{ℕ, ◌<◌}
use Rattle.ctl_code.specs.Kinds.{stack_at}
use Rattle.ctl_code.specs.Valid.{IsOperandAt}
use Rattle.ctl_code.proofs.calls.has_operands.Given as goal

-- each kind so far is an operand
abbrev pub invariant-loop-depth : goal.invariant-loop-depth
invariant-loop-depth l = (i : ℕ) → i < l.depth → IsOperandAt (stack_at l.code.kinds l.place) i
