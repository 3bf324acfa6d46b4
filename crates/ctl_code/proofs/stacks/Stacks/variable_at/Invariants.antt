use Rattle.std.proofs.Common.{◌≡◌}
use Rattle.ctl_code.specs.Kinds.{stack_in}
use Rattle.ctl_code.specs.Windows.{variable_at}
use Rattle.ctl_code.proofs.stacks.Stacks.variable_at.Given as goal

abbrev pub invariant-loop-link : goal.invariant-loop-link
invariant-loop-link l = variable_at (stack_in l.self l.left) l.out l.slot ≡ variable_at (stack_in l.self l.stack) l.fn.out l.slot

abbrev pub decreases-loop-link : goal.decreases-loop-link
decreases-loop-link l = l.left
