use Rattle.std.proofs.Common.{◌≡◌, drop}
use Rattle.ctl_resolve.specs.Parts as spec
use Rattle.ctl_resolve.proofs.ends.unfinished.Given as goal

-- the first of those that are left, from here, is the first of all
abbrev pub invariant-loop-declaration : goal.invariant-loop-declaration
invariant-loop-declaration l = spec.unfinished l.fault (drop l.declaration-index l.declarations) ≡ spec.unfinished l.fn.so_far l.declarations
