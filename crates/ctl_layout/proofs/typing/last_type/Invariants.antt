-- The type so far, and the operators that are left.
use Rattle.std.proofs.Common.{◌≡◌, drop, map}
use Rattle.ctl_layout.specs.Values.{last_type, operator_of}
use Rattle.ctl_layout.proofs.typing.last_type.Given as goal

abbrev pub invariant-loop-operand : goal.invariant-loop-operand
invariant-loop-operand l = last_type l.last (map operator_of (drop l.operand-index l.more)) ≡ last_type l.fn.first (map operator_of l.more)
