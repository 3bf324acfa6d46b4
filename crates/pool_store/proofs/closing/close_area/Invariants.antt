use Rattle.std.proofs.Common.{◌≡◌}
use Rattle.std.specs.FinMap.{len}
use Rattle.pool_store.specs.Entries.{is_elsewhere, AreHeldBy}
use Rattle.pool_store.specs.Kept.{kept}
use Rattle.pool_store.proofs.closing.close_area.Given as goal

abbrev pub invariant-loop-returned : goal.invariant-loop-returned
invariant-loop-returned g l =
    record { held : AreHeldBy l.pool l.area l.objects.values; rest : kept (is_elsewhere l.pool) l.objects.values ≡ kept (is_elsewhere l.pool) l.initial.objects.values }

abbrev pub decreases-loop-returned : goal.decreases-loop-returned
decreases-loop-returned g l = len l.area.out
