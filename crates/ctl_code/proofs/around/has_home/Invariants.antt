use Rattle.std.proofs.Common.{ℕ, ◌<◌, ◌≤◌}
use Rattle.ctl_code.specs.Kinds.{stack_at}
use Rattle.ctl_code.specs.Windows.{said, slots_at}
use Rattle.ctl_code.proofs.around.has_home.Given as goal

-- each master so far
abbrev pub invariant-loop-level : goal.invariant-loop-level
invariant-loop-level l = (level : ℕ) → level < l.level → said l.code.homes l.of level ≤ slots_at l.code.homes (stack_at l.code.kinds l.place) level
