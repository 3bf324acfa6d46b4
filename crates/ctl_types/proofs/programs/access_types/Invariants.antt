use Rattle.std.proofs.Common.{◌≡◌, drop, Some, []}
use Rattle.ctl_types.specs.Elaboration as spec
use Rattle.ctl_types.proofs.programs.access_types.Given as goal

-- those that are left, behind those so far, are all
abbrev pub invariant-loop-access : goal.invariant-loop-access
invariant-loop-access l = spec.access_types_on l.done (drop l.access-index l.accesses) ≡ spec.access_types_on (Some []) l.accesses
