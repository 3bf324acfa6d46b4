use Rattle.std.proofs.Common.{◌≡◌, ℕ, ◌<◌, ◌≤◌, Some}
use Rattle.std.specs.Prelude.{slice_get}
use Rattle.ctl_code.specs.Kinds.{stack_in}
use Rattle.ctl_code.specs.Windows.{height}
use Rattle.ctl_code.proofs.kinds.are_at_most.Given as goal

abbrev pub invariant-loop-number : goal.invariant-loop-number
invariant-loop-number l = (place number : ℕ) → place < l.number-index → slice_get l.before place ≡ Some number → height (stack_in l.stacks number) ≤ l.room
