use Rattle.std.proofs.Common.{◌≡◌, ◌≤◌, length, vec_len}
use Rattle.pool_area.specs.Rows.{AreLots, end_of, HeldFrom, IsBack}
use Rattle.pool_area.proofs.subpool.bring_back.Given as goal

-- what is left lies behind the mark, and what came back is in the region
abbrev pub invariant-loop-lot : goal.invariant-loop-lot
invariant-loop-lot g l =
    record {
      lots : AreLots l.pool.home l.initial.subpool.start l.subpool.lots.items;
      rest : HeldFrom (end_of l.initial.subpool.start l.subpool.lots.items) l.pool.places;
      fits : end_of l.initial.subpool.start l.subpool.lots.items ≤ length l.pool.places;
      pool : IsBack l.initial.pool l.pool;
      subpool : (l.subpool.number ≡ l.initial.subpool.number) × (l.subpool.standing ≡ l.initial.subpool.standing) × (l.subpool.start ≡ l.initial.subpool.start);
    }

abbrev pub decreases-loop-lot : goal.decreases-loop-lot
decreases-loop-lot g l = vec_len l.subpool.lots
