use Rattle.std.proofs.Common.{◌≡◌, drop}
use Rattle.ctl_resolve.specs.Whole as spec
use Rattle.ctl_resolve.proofs.context.open_each.Given as goal

-- what is left, from here, gives what all gives
abbrev pub invariant-loop-one : goal.invariant-loop-one
invariant-loop-one l = spec.open_each l.units (drop l.one-index l.all) ≡ spec.open_each l.fn.units l.all
