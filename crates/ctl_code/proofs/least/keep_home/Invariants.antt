use Rattle.ctl_code.specs.Homes.{Raises}
use Rattle.ctl_code.specs.Kinds.{stack_at}
use Rattle.ctl_code.proofs.Raising.{HasLevel, UpTo}
use Rattle.ctl_code.proofs.least.keep_home.Given as goal

-- for the levels so far
abbrev pub invariant-loop-level : goal.invariant-loop-level
invariant-loop-level l = Raises (UpTo (HasLevel (stack_at l.code.kinds l.place) l.of) l.level) l.fn.homes l.homes l.raised
