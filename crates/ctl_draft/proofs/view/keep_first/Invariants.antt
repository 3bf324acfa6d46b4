use Rattle.std.proofs.Common.{◌≡◌, length, take}
use Rattle.ctl_draft.proofs.view.keep_first.Given as goal

abbrev pub decreases-loop-items : goal.decreases-loop-items
decreases-loop-items over l = length l.items

-- the first ones are the same
abbrev pub invariant-loop-items : goal.invariant-loop-items
invariant-loop-items over l = take l.count l.items ≡ take l.count l.fn.items
