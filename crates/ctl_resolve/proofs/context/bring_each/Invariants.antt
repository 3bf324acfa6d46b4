use Rattle.std.proofs.Common.{◌≡◌, drop}
use Rattle.ctl_resolve.specs.Whole as spec
use Rattle.ctl_resolve.proofs.context.bring_each.Given as goal

-- what is left, from here, gives what all gives
abbrev pub invariant-loop-one : goal.invariant-loop-one
invariant-loop-one l = spec.bring_each l.units (drop l.one-index l.all) ≡ spec.bring_each l.fn.units l.all
