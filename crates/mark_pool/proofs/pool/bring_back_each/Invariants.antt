use Rattle.std.proofs.Common.{◌≡◌, ◌++◌, map, take, drop}
use Rattle.mark_pool.specs.Marks.{back_at}
use Rattle.mark_pool.proofs.pool.bring_back_each.Given as goal

abbrev pub invariant-loop-mark : goal.invariant-loop-mark
invariant-loop-mark l = l.marks ≡ map (back_at l.start l.words) (take l.mark-index l.initial.marks) ++ drop l.mark-index l.initial.marks
