use Rattle.std.proofs.Common.{◌≡◌, drop}
use Rattle.ctl_resolve.specs.Whole as spec
use Rattle.ctl_resolve.proofs.context.any_elsewhere.Given as goal

-- what is left, from here, answers what all answers
abbrev pub invariant-loop-one : goal.invariant-loop-one
invariant-loop-one l = spec.any_elsewhere (drop l.one-index l.all) ≡ spec.any_elsewhere l.all
