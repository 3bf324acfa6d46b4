use Rattle.ctl_code.specs.Homes.{Raises}
use Rattle.ctl_code.proofs.Raising.{IsFineBy, UpTo}
use Rattle.ctl_code.proofs.least.keep_instructions.Given as goal

-- for the instructions so far
abbrev pub invariant-loop-number : goal.invariant-loop-number
invariant-loop-number l = Raises (UpTo (IsFineBy l.code l.from_last) l.number) l.fn.homes l.homes l.raised
