use Rattle.std.proofs.Common.{sym, subst}
use Rattle.mark_pool.specs.Marks.{Marks, IsTopBack}
use Rattle.mark_pool.proofs.MarkCounts.{counts_dropped}
use Rattle.mark_pool.proofs.Steps.{stands_dropped}
use Rattle.mark_pool.proofs.pool.MarkPool.release.Goals as goal

pub invariant_of-self : goal.invariant_of-self
invariant_of-self g c =
    let p = c.self.inside in
    let mark = c.in-Some.mark in
    let front = c.pop.new.self.items in
    let back = subst (λ (m : Marks). IsTopBack m) (sym c.self.view_is) c.requires.back in (
      stands_dropped p.region p.size p.used p.top mark p.older.items front back c.in-Some.ensures.items c.self.invariant.0,
      counts_dropped p.region.places p.size p.out p.top mark p.older.items front c.in-Some.ensures.items c.self.invariant.1,
    )
