use Rattle.std.proofs.Common.{◌≡◌}
use Rattle.pool_store.specs.Cells.{is_out_of_subpool, AreHeldIn}
use Rattle.pool_store.specs.Kept.{kept}
use Rattle.pool_store.proofs.Forgotten.{AreFrom}
use Rattle.pool_store.proofs.forgetting.forget_subpool.Given as goal

abbrev pub invariant-loop-index : goal.invariant-loop-index
invariant-loop-index g l =
    record {
      held : AreHeldIn l.pool l.area l.cells.values;
      rest : kept (is_out_of_subpool l.pool l.subpool) l.cells.values ≡ kept (is_out_of_subpool l.pool l.subpool) l.initial.cells.values;
      from : AreFrom l.pool l.subpool l.index l.cells.values;
    }
