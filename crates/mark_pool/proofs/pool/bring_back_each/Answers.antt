use Rattle.std.proofs.Common.{rules, arith}
use Rattle.std.proofs.lemmas.List.Edits.{map_over_more}
use Rattle.mark_pool.specs.Marks.{back_at}
use Rattle.mark_pool.proofs.pool.bring_back_each.Goals as goal

pub loop-mark-preserved : goal.loop-mark-preserved
loop-mark-preserved c =
    rw c.bring_back.ensures
    (map_over_more (back_at c.args.start c.args.words) c.args.marks.now c.loop-mark.marks c.loop-mark.mark-index _ (omega arith) c.loop-mark.invariant (search rules))
