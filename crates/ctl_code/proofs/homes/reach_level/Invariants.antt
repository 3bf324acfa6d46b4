use Rattle.std.proofs.Common.{◌≡◌, ℕ, ◌-◌, suc, length}
use Rattle.std.specs.Prelude.{slice_get}
use Rattle.ctl_code.specs.Windows.{count_of}
use Rattle.ctl_code.proofs.homes.reach_level.Given as goal

abbrev pub invariant-loop-slots : goal.invariant-loop-slots
invariant-loop-slots l = (other : ℕ) → count_of (slice_get l.slots.items other) ≡ count_of (slice_get l.initial.slots.items other)

abbrev pub decreases-loop-slots : goal.decreases-loop-slots
decreases-loop-slots l = suc l.level - length l.slots.items
