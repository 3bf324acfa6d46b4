use Rattle.std.proofs.Common.{◌≡◌, map, drop}
use Rattle.ctl_typing.specs.Senses.{operand_sense}
use Rattle.ctl_typing.specs.Typing as spec
use Rattle.ctl_typing.proofs.adopting.all_joining.Given as goal

-- what holds of those that are left holds of all
abbrev pub invariant-loop-operand : goal.invariant-loop-operand
invariant-loop-operand l = spec.all_joining (map operand_sense (drop l.operand-index l.rest)) ≡ spec.all_joining (map operand_sense l.rest)
