use Rattle.std.proofs.Common.{◌≡◌, ◌+◌, drop}
use Rattle.ctl_resolve.specs.Expressions as spec
use Rattle.ctl_resolve.proofs.names.way_from.Given as goal

-- where those that are left lead from here, all lead
abbrev pub invariant-loop-index : goal.invariant-loop-index
invariant-loop-index l = spec.way_from l.unit (l.index + 1) (drop l.index l.rest) ≡ spec.way_from l.fn.root 1 l.rest
