use Rattle.std.proofs.Common.{◌≡◌, length}
use Rattle.ctl_declarations.specs.Declarations as spec
use Rattle.ctl_declarations.proofs.overriding.has_same_formals.Given as goal

-- what is left of both is the same where all is
abbrev pub invariant-formals : goal.invariant-formals
invariant-formals l = spec.same_formals l.left l.right ≡ spec.same_formals l.fn.a l.fn.b

abbrev pub decreases-formals : goal.decreases-formals
decreases-formals l = length l.left
