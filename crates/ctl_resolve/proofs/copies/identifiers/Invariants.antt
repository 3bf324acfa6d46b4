use Rattle.std.proofs.Common.{◌≡◌, ◌++◌, drop}
use Rattle.ctl_resolve.proofs.copies.identifiers.Given as goal

-- the copies, and what is left, are all
abbrev pub invariant-loop-one : goal.invariant-loop-one
invariant-loop-one l = l.copies ++ drop l.one-index l.all ≡ l.all
