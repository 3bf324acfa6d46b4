use Rattle.std.proofs.Common.{◌≡◌, map, drop, ◌+◌, ◌*◌}
use Rattle.ctl_slice.specs.Places as spec
use Rattle.ctl_slice.proofs.walk.+part.Given as goal

abbrev pub invariant-items-loop-one : goal.invariant-items-loop-one
invariant-items-loop-one l = spec.first_of (map spec.item (drop l.one-index l.items)) ≡ spec.first_of (map spec.item l.items)

abbrev pub invariant-statements-loop-one : goal.invariant-statements-loop-one
invariant-statements-loop-one l = spec.first_of (map spec.statement (drop l.one-index l.statements)) ≡ spec.first_of (map spec.statement l.statements)

abbrev pub invariant-branches-loop-one : goal.invariant-branches-loop-one
invariant-branches-loop-one l = spec.first_of (map spec.branch (map spec.branch_of (drop l.one-index l.branches))) ≡ spec.first_of (map spec.branch (map spec.branch_of l.branches))

abbrev pub invariant-handlers-loop-one : goal.invariant-handlers-loop-one
invariant-handlers-loop-one l = spec.first_of (map spec.handler (map spec.handler_of (drop l.one-index l.handlers))) ≡ spec.first_of (map spec.handler (map spec.handler_of l.handlers))

-- how deep is what is left, and then the order of the calls at one depth
abbrev pub decreases-statement : goal.decreases-statement
decreases-statement l = goal.size-statement l * 16 + 0

abbrev pub decreases-statements : goal.decreases-statements
decreases-statements l = goal.size-statements l * 16 + 1

abbrev pub decreases-branch : goal.decreases-branch
decreases-branch l = goal.size-branch l * 16 + 2

abbrev pub decreases-branches : goal.decreases-branches
decreases-branches l = goal.size-branches l * 16 + 3

abbrev pub decreases-handler : goal.decreases-handler
decreases-handler l = goal.size-handler l * 16 + 2

abbrev pub decreases-handlers : goal.decreases-handlers
decreases-handlers l = goal.size-handlers l * 16 + 3

abbrev pub decreases-item : goal.decreases-item
decreases-item l = goal.size-item l * 16 + 0

abbrev pub decreases-items : goal.decreases-items
decreases-items l = goal.size-items l * 16 + 1

abbrev pub decreases-body : goal.decreases-body
decreases-body l = goal.size-body l * 16 + 4
