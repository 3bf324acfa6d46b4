use Rattle.std.proofs.Common.{◌≡◌, ◌++◌, length}
use Rattle.std.specs.Prelude.{reverse}
use Rattle.ctl_types.proofs.programs.turned.Given as goal

abbrev pub decreases-loop-item : goal.decreases-loop-item
decreases-loop-item over l = length l.left

-- those that were turned round, and those that are left, are all
abbrev pub invariant-loop-item : goal.invariant-loop-item
invariant-loop-item over l = l.all ++ reverse l.left ≡ reverse l.fn.items
