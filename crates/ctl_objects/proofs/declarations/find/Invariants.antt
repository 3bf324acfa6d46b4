use Rattle.std.specs.Prelude.{◌≤◌, ◌-◌, length, drop, take}
use Rattle.ctl_objects.proofs.Found.{AreUnder, AreOver}
use Rattle.ctl_objects.proofs.declarations.find.Given as goal

-- those before have lower numbers, and those behind higher ones
abbrev pub invariant-loop-low : goal.invariant-loop-low
invariant-loop-low l = (l.high ≤ length l.objects) × AreUnder l.number (take l.low l.objects) × AreOver l.number (drop l.high l.objects)

abbrev pub decreases-loop-low : goal.decreases-loop-low
decreases-loop-low l = l.high - l.low
