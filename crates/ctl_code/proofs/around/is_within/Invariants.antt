use Rattle.std.proofs.Common.{ℕ, ◌<◌, ◌≤◌}
use Rattle.ctl_code.specs.Windows.{said}
use Rattle.ctl_code.proofs.around.is_within.Given as goal

-- each master so far
abbrev pub invariant-loop-level : goal.invariant-loop-level
invariant-loop-level l = (level : ℕ) → level < l.level → said l.code.homes l.of level ≤ said l.code.homes l.outer level
