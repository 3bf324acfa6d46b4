use Rattle.std.proofs.Common.{◌≡◌, [], drop}
use Rattle.ctl_resolve.specs.Whole as spec
use Rattle.ctl_resolve.proofs.context.brought.Given as goal

-- what is left, from here, gives what all gives
abbrev pub invariant-loop-clause : goal.invariant-loop-clause
invariant-loop-clause l = spec.brought l.units (drop l.clause-index l.contexts) ≡ spec.brought [] l.contexts
