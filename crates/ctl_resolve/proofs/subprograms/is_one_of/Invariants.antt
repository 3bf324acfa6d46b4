use Rattle.std.proofs.Common.{◌≡◌, drop}
use Rattle.ctl_resolve.specs.Declarations as spec
use Rattle.ctl_resolve.proofs.subprograms.is_one_of.Given as goal

-- it is one of those that are left, or none
abbrev pub invariant-loop-id : goal.invariant-loop-id
invariant-loop-id l = spec.is_one_of l.name (drop l.id-index l.ids) ≡ spec.is_one_of l.name l.ids
