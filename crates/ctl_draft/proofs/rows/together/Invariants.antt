use Rattle.std.proofs.Common.{◌≡◌, ◌++◌, length}
use Rattle.std.specs.Prelude.{reverse}
use Rattle.ctl_typing.specs.Typing as spec
use Rattle.ctl_draft.proofs.rows.together.Given as goal

abbrev pub decreases-loop-row : goal.decreases-loop-row
decreases-loop-row over l = length l.left

-- the rows that are left stand behind those that were joined
abbrev pub invariant-loop-row : goal.invariant-loop-row
invariant-loop-row over l = l.all ++ spec.together (reverse l.left) ≡ spec.together l.fn.rows
