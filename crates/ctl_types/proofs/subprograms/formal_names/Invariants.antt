use Rattle.std.proofs.Common.{◌≡◌, ◌++◌, drop}
use Rattle.ctl_types.specs.Subprograms as spec
use Rattle.ctl_types.proofs.subprograms.formal_names.Given as goal

-- the names of the formals that are left, behind those so far, are all
abbrev pub invariant-loop-one : goal.invariant-loop-one
invariant-loop-one l = l.names ++ spec.formal_names (drop l.one-index l.formals) ≡ spec.formal_names l.formals
