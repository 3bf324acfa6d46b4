use Rattle.std.proofs.Common.{◌≡◌, length}
use Rattle.ctl_types.specs.Subprograms as spec
use Rattle.ctl_types.proofs.subprograms.has_same_names.Given as goal

-- what is left of both is the same where all is
abbrev pub invariant-names : goal.invariant-names
invariant-names l = spec.same_names l.left l.right ≡ spec.same_names l.fn.a l.fn.b

abbrev pub decreases-names : goal.decreases-names
decreases-names l = length l.left
