use Rattle.std.proofs.Common.{◌≡◌, ◌++◌, length}
use Rattle.std.specs.Prelude.{reverse}
use Rattle.ctl_draft.proofs.rows.turned.Given as goal

abbrev pub decreases-loop-last : goal.decreases-loop-last
decreases-loop-last over l = length l.left

-- the items that are left stand behind those that were taken
abbrev pub invariant-loop-last : goal.invariant-loop-last
invariant-loop-last over l = l.back ++ reverse l.left ≡ reverse l.fn.row
