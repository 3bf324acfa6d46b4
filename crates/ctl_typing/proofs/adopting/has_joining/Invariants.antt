use Rattle.std.proofs.Common.{◌≡◌, map, drop}
use Rattle.ctl_typing.specs.Senses.{operand_sense}
use Rattle.ctl_typing.specs.Typing as spec
use Rattle.ctl_typing.proofs.adopting.has_joining.Given as goal

-- what is found among those that are left is found among all
abbrev pub invariant-loop-operand : goal.invariant-loop-operand
invariant-loop-operand l = spec.has_joining (map operand_sense (drop l.operand-index l.rest)) ≡ spec.has_joining (map operand_sense l.rest)
