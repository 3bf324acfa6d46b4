use Rattle.std.proofs.Common.{◌≡◌, drop}
use Rattle.ctl_resolve.specs.Declarations as spec
use Rattle.ctl_resolve.proofs.subprograms.last_identifier.Given as goal

-- the last of those that are left, or the one before them, is the last of all
abbrev pub invariant-loop-id : goal.invariant-loop-id
invariant-loop-id l = spec.last_identifier l.last (drop l.id-index l.rest) ≡ spec.last_identifier l.first l.rest
