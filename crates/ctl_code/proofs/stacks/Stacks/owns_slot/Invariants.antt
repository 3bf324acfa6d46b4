use Rattle.std.proofs.Common.{◌↔◌}
use Rattle.ctl_code.specs.Kinds.{stack_in}
use Rattle.ctl_code.specs.Windows.{OwnsSlot}
use Rattle.ctl_code.proofs.stacks.Stacks.owns_slot.Given as goal

abbrev pub invariant-loop-link : goal.invariant-loop-link
invariant-loop-link l = OwnsSlot (stack_in l.self l.left) l.slot ↔ OwnsSlot (stack_in l.self l.stack) l.slot

abbrev pub decreases-loop-link : goal.decreases-loop-link
decreases-loop-link l = l.left
