use Rattle.std.proofs.Common.{◌+◌, ◌≤◌, arith}
use Rattle.raw_region.specs.Places.{AreHeld}
use Rattle.mark_pool.proofs.MarkCounts.{counts_taken}
use Rattle.mark_pool.proofs.OutCounts.{out_le}
use Rattle.mark_pool.proofs.Steps.{stands_taken}
use Rattle.mark_pool.proofs.pool.MarkPool.take.Goals as goal

pub overflow_add-self-2 : goal.overflow_add-self-2
overflow_add-self-2 g c =
    let p = c.self.inside in
    let most = out_le p.region.places p.size in
    record { fits = omega (arith, c.self.invariant.1.whole, c.self.invariant.0.small) }

pub invariant_of-self : goal.invariant_of-self
invariant_of-self g c =
    let p = c.self.inside in
    let n = c.args.words in
    let s = c.self.invariant.0 in
    let fits : p.used + n ≤ p.size = omega (arith, c.if-words-self.false, s.used_fits) in
    let there : AreHeld p.region.places p.used n = λ k lo hi. s.rest k lo (omega arith) in (
      stands_taken p.region c.cut.new.self p.size p.used n p.top p.older.items s fits c.cut.ensures.places,
      counts_taken p.region.places c.cut.new.self.places p.size p.used n p.out p.top p.older.items s.places fits there s.top_fits s.in_order
          c.cut.ensures.places c.self.invariant.1,
    )
