use Rattle.std.proofs.Common.{◌≡◌}
use Rattle.pool_area.specs.Subpools.{change_subpool}
use Rattle.pool_area.proofs.EmptyLemmas.{emptied_before}
use Rattle.pool_area.proofs.mark_area.MarkArea.vacate_all.Given as goal

abbrev pub invariant-loop-index : goal.invariant-loop-index
invariant-loop-index g l =
    l.self ≡ record l.initial.self { subpools = change_subpool l.number (emptied_before l.index) l.initial.self.subpools }
