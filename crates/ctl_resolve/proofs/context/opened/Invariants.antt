use Rattle.std.proofs.Common.{◌≡◌, [], drop}
use Rattle.ctl_resolve.specs.Whole as spec
use Rattle.ctl_resolve.proofs.context.opened.Given as goal

-- what is left, from here, gives what all gives
abbrev pub invariant-loop-clause : goal.invariant-loop-clause
invariant-loop-clause l = spec.opened l.units (drop l.clause-index l.contexts) ≡ spec.opened [] l.contexts
