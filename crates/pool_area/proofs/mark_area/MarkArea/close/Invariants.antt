use Rattle.std.proofs.Common.{◌≤◌, length, vec_len}
use Rattle.pool_area.specs.Rows.{AreStacked, rows_end, HeldFrom}
use Rattle.pool_area.proofs.mark_area.MarkArea.close.Given as goal

abbrev pub invariant-loop-subpool : goal.invariant-loop-subpool
invariant-loop-subpool g l =
    record {
      stacked : AreStacked l.pool.home 0 l.subpools.items;
      rest : HeldFrom (rows_end 0 l.subpools.items) l.pool.places;
      fits : rows_end 0 l.subpools.items ≤ length l.pool.places;
    }

abbrev pub decreases-loop-subpool : goal.decreases-loop-subpool
decreases-loop-subpool g l = vec_len l.subpools
