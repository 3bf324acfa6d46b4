use Rattle.pool_area.specs.Rows.{NoneBefore}
use Rattle.pool_area.proofs.subpool.place_of.Given as goal

abbrev pub invariant-loop-i : goal.invariant-loop-i
invariant-loop-i g l = NoneBefore l.number l.i l.subpools
