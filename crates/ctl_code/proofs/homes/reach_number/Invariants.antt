use Rattle.std.proofs.Common.{◌≡◌, ℕ, ◌-◌, suc, length}
use Rattle.std.specs.Prelude.{slice_get}
use Rattle.ctl_code.specs.Windows.{row_in}
use Rattle.ctl_code.proofs.homes.reach_number.Given as goal

abbrev pub invariant-loop-alloc : goal.invariant-loop-alloc
invariant-loop-alloc l = (other : ℕ) → row_in (slice_get l.homes.items other) ≡ row_in (slice_get l.initial.homes.items other)

abbrev pub decreases-loop-alloc : goal.decreases-loop-alloc
decreases-loop-alloc l = suc l.number - length l.homes.items
