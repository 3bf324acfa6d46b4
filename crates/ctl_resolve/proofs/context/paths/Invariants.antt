use Rattle.std.proofs.Common.{◌≡◌, ◌++◌, drop}
use Rattle.ctl_resolve.proofs.context.paths.Given as goal

-- what is left, from here, gives what all gives
abbrev pub invariant-loop-one : goal.invariant-loop-one
invariant-loop-one l = l.copies ++ drop l.one-index l.all ≡ l.all
