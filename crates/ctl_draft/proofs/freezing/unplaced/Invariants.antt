use Rattle.std.proofs.Common.{◌≡◌, ◌++◌, drop}
use Rattle.ctl_draft.specs.Freezing as spec
use Rattle.ctl_draft.proofs.freezing.unplaced.Given as goal

-- those so far and those behind are all
abbrev pub invariant-loop-number : goal.invariant-loop-number
invariant-loop-number l = l.numbers ++ spec.unplaced l.fn.level l.number (drop l.number l.accesses) ≡ spec.unplaced l.fn.level l.first (drop l.first l.accesses)
