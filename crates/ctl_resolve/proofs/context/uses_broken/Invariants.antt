use Rattle.std.proofs.Common.{◌≡◌, None, drop}
use Rattle.ctl_resolve.specs.Whole as spec
use Rattle.ctl_resolve.proofs.context.uses_broken.Given as goal

-- what is left, from here, gives what all gives
abbrev pub invariant-loop-clause : goal.invariant-loop-clause
invariant-loop-clause l = spec.uses_broken l.fault (drop l.clause-index l.contexts) ≡ spec.uses_broken None l.contexts
