use Rattle.ctl_code.specs.Homes.{Raises}
use Rattle.ctl_code.proofs.Raising.{HasLevelOf, UpTo}
use Rattle.ctl_code.proofs.least.keep_within.Given as goal

-- for the levels so far
abbrev pub invariant-loop-level : goal.invariant-loop-level
invariant-loop-level l = Raises (UpTo (HasLevelOf l.outer l.of) l.level) l.fn.homes l.homes l.raised
