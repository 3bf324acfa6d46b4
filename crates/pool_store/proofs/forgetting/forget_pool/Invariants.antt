use Rattle.std.proofs.Common.{◌≡◌}
use Rattle.pool_store.specs.Cells.{is_out_of_pool, AreHeldIn}
use Rattle.pool_store.specs.Kept.{kept}
use Rattle.pool_store.proofs.Forgotten.{AreBehind}
use Rattle.pool_store.proofs.forgetting.forget_pool.Given as goal

abbrev pub invariant-loop-place : goal.invariant-loop-place
invariant-loop-place g l =
    record {
      held : AreHeldIn l.pool l.area l.cells.values;
      rest : kept (is_out_of_pool l.pool) l.cells.values ≡ kept (is_out_of_pool l.pool) l.initial.cells.values;
      behind : AreBehind l.pool l.place l.area l.cells.values;
    }
