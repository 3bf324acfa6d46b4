-- What is left are literals as what there was.
use Rattle.std.proofs.Common.{◌≡◌, drop}
use Rattle.ctl_slice.specs.Constructs.{are_literals}
use Rattle.ctl_slice.proofs.construct.are_literals.Given as goal

abbrev pub invariant-loop-discriminant : goal.invariant-loop-discriminant
invariant-loop-discriminant l = are_literals (drop l.discriminant-index l.discriminants) ≡ are_literals l.discriminants
