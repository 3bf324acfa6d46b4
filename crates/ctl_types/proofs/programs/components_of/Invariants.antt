use Rattle.std.proofs.Common.{◌≡◌, length}
use Rattle.std.specs.Prelude.{reverse}
use Rattle.ctl_types.specs.Elaboration as spec
use Rattle.ctl_types.proofs.programs.components_of.Given as goal

abbrev pub decreases-loop-own : goal.decreases-loop-own
decreases-loop-own l = length l.left

-- those that are left, behind those so far, are all
abbrev pub invariant-loop-own : goal.invariant-loop-own
invariant-loop-own l = spec.components_on l.done (reverse l.left) ≡ spec.components_known (reverse l.fn.components)
