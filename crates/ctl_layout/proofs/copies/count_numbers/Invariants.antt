-- What is counted and what is left are all, at most two for each.
use Rattle.std.proofs.Common.{◌≡◌, ◌+◌, ◌*◌, ◌≤◌, map, drop}
use Rattle.ctl_layout.specs.Values.{actual_code, numbers_in}
use Rattle.ctl_layout.proofs.copies.count_numbers.Given as goal

abbrev pub invariant-loop-actual : goal.invariant-loop-actual
invariant-loop-actual l = record { all : l.count + numbers_in (map actual_code (drop l.actual-index l.actuals)) ≡ numbers_in (map actual_code l.actuals); few : l.count ≤ 2 * l.actual-index }
