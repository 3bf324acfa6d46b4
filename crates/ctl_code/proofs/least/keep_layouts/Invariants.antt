use Rattle.ctl_code.specs.Homes.{Raises}
use Rattle.ctl_code.proofs.Raising.{IsAroundAt, UpTo}
use Rattle.ctl_code.proofs.least.keep_layouts.Given as goal

-- for the record types so far
abbrev pub invariant-loop-number : goal.invariant-loop-number
invariant-loop-number l = Raises (UpTo (IsAroundAt l.code) l.number) l.fn.homes l.homes l.raised
