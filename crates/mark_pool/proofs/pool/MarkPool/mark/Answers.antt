use Rattle.std.proofs.Common.{◌+◌, sym, subst}
use Rattle.mark_pool.specs.declared.pool.StandingMark.{StandingMark}
use Rattle.mark_pool.specs.Marks.{Stands, Counts}
use Rattle.mark_pool.proofs.MarkCounts.{counts_marked}
use Rattle.mark_pool.proofs.Steps.{stands_marked}
use Rattle.mark_pool.proofs.pool.MarkPool.mark.Goals as goal

pub invariant_of-self : goal.invariant_of-self
invariant_of-self g c =
    let p = c.self.inside in
    let s = c.self.invariant.0 in
    let top : StandingMark = record { number = p.last + 1; start = p.used; out_below = p.out } in
    subst (λ older. Stands p.region p.size p.used top older × Counts p.region.places p.size p.out top older) (sym c.push.ensures.items) (
      stands_marked p.region p.size p.used (p.last + 1) p.out p.top p.older.items s,
      counts_marked p.region.places p.size p.used (p.last + 1) p.out p.top p.older.items s.used_fits s.rest c.self.invariant.1,
    )
