use Rattle.std.proofs.Common.{drop, take}
use Rattle.ctl_typing.proofs.Parting.{Behind}
use Rattle.ctl_typing.proofs.adopting.parted.Given as goal

-- those before take on a type
abbrev pub invariant-loop-at : goal.invariant-loop-at
invariant-loop-at l = Behind (take l.at l.operands) (drop l.at l.operands) l.operands
