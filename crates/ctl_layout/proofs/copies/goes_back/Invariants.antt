-- One of what is left goes back where one of all does.
use Rattle.std.proofs.Common.{◌≡◌, map, drop}
use Rattle.ctl_layout.specs.Values.{actual_code, goes_back}
use Rattle.ctl_layout.proofs.copies.goes_back.Given as goal

abbrev pub invariant-loop-actual : goal.invariant-loop-actual
invariant-loop-actual l = goes_back (map actual_code (drop l.actual-index l.actuals)) ≡ goes_back (map actual_code l.actuals)
