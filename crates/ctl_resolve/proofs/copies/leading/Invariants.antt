use Rattle.std.proofs.Common.{◌≡◌, ◌++◌, drop}
use Rattle.ctl_resolve.specs.Expressions as spec
use Rattle.ctl_resolve.proofs.copies.leading.Given as goal

-- the copies, and those at the beginning of what is left, are all
abbrev pub invariant-loop-suffix : goal.invariant-loop-suffix
invariant-loop-suffix l = l.copies ++ spec.leading (drop l.suffix-index l.suffixes) ≡ spec.leading l.suffixes
