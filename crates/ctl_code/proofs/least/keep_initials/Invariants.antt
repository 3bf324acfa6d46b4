use Rattle.ctl_code.specs.Homes.{Raises}
use Rattle.ctl_code.proofs.Raising.{IsWithinAt, UpTo}
use Rattle.ctl_code.proofs.least.keep_initials.Given as goal

-- for the components so far
abbrev pub invariant-loop-component : goal.invariant-loop-component
invariant-loop-component l = Raises (UpTo (IsWithinAt l.code l.number l.layout.begun.items) l.component-index) l.fn.homes l.homes l.raised
