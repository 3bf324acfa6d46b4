use Rattle.std.proofs.Common.{◌≡◌}
use Rattle.ctl_code.specs.Kinds.{stack_in}
use Rattle.ctl_code.specs.Windows.{master_at}
use Rattle.ctl_code.proofs.stacks.Stacks.master_at.Given as goal

abbrev pub invariant-loop-link : goal.invariant-loop-link
invariant-loop-link l = master_at (stack_in l.self l.left) l.level ≡ master_at (stack_in l.self l.stack) l.level

abbrev pub decreases-loop-link : goal.decreases-loop-link
decreases-loop-link l = l.left
