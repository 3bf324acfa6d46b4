use Rattle.std.proofs.Common.{rules, sym, subst, arith}
use Rattle.mark_pool.specs.Marks.{Stands, Counts}
use Rattle.mark_pool.proofs.MarkCounts.{counts_new}
use Rattle.mark_pool.proofs.Steps.{first_mark, stands_new}
use Rattle.mark_pool.proofs.pool.MarkPool.new.Goals as goal

pub invariant_of-result : goal.invariant_of-result
invariant_of-result g c =
    let region = c.in_ok-open.field-0 in
    let words = c.args.words in
    let stands = stands_new region words (search rules) c.in_ok-open.ensures.zero in
    let counts = counts_new region.places words (λ k lo hi. stands.rest k lo (omega arith)) in
    subst (λ older. Stands region words 0 first_mark older × Counts region.places words 0 first_mark older) (sym c.new.ensures) (stands, counts)
