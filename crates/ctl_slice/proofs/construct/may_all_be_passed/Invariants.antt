-- What is left is passed as what there was.
use Rattle.std.proofs.Common.{◌≡◌, drop}
use Rattle.ctl_slice.specs.Constructs.{may_all_be_passed}
use Rattle.ctl_slice.proofs.construct.may_all_be_passed.Given as goal

abbrev pub invariant-loop-formal : goal.invariant-loop-formal
invariant-loop-formal l = may_all_be_passed (drop l.formal-index l.formals) ≡ may_all_be_passed l.formals
