use Rattle.std.proofs.Common.{◌≡◌, length}
use Rattle.std.specs.Prelude.{reverse}
use Rattle.ctl_types.specs.Elaboration as spec
use Rattle.ctl_types.proofs.programs.subprograms_of.Given as goal

abbrev pub decreases-loop-routine : goal.decreases-loop-routine
decreases-loop-routine l = length l.left

-- those that are left, behind those so far, are all
abbrev pub invariant-loop-routine : goal.invariant-loop-routine
invariant-loop-routine l = spec.subprograms_on l.done (reverse l.left) ≡ spec.subprograms (reverse l.fn.routines)
