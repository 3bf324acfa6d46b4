use Rattle.std.proofs.Common.{◌≡◌, ◌++◌, drop}
use Rattle.ctl_resolve.proofs.context.add_each.Given as goal

-- what is left, from here, gives what all gives
abbrev pub invariant-loop-unit : goal.invariant-loop-unit
invariant-loop-unit l = l.units ++ drop l.unit-index l.more ≡ l.fn.units ++ l.more
