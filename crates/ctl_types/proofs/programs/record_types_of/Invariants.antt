use Rattle.std.proofs.Common.{◌≡◌, ◌++◌, drop, length}
use Rattle.std.specs.Prelude.{reverse}
use Rattle.ctl_types.specs.Elaboration as spec
use Rattle.ctl_types.proofs.programs.record_types_of.Given as goal

abbrev pub decreases-loop-own : goal.decreases-loop-own
decreases-loop-own l = length l.left

-- those so far, and those of the components that are left, are all
abbrev pub invariant-loop-own : goal.invariant-loop-own
invariant-loop-own l =
    l.types ++ spec.record_types (drop (length l.types) l.entries) (drop (length l.types) l.states) (reverse l.left) ≡ spec.record_types l.entries l.states (reverse l.fn.components)
