use Rattle.std.proofs.Common.{length, IsTrue, eqb, subst, arith}
use Rattle.mark_pool.specs.Marks.{Marks, IsTopBack}
use Rattle.raw_region.specs.Places.{AreHeld}
use Rattle.mark_pool.proofs.OutCounts.{whole_held, held_whole}
use Rattle.mark_pool.proofs.pool.MarkPool.is_whole.Goals as goal

pub returns-clause-all : goal.returns-clause-all
returns-clause-all g c =
    let p = c.self.inside in
    let long = c.self.invariant.0.places in
    subst (λ (m : Marks). (IsTrue (eqb p.out 0) → AreHeld m.places 0 (length m.places)) × (AreHeld m.places 0 (length m.places) → IsTrue (eqb p.out 0))) c.self.view_is
    (whole_held p.region.places p.size p.out long c.self.invariant.1.whole, held_whole p.region.places p.size p.out long c.self.invariant.1.whole)

pub returns-clause-top : goal.returns-clause-top
returns-clause-top g c =
    let p = c.self.inside in
    let long = c.self.invariant.0.places in
    let used = c.self.invariant.0.used_fits in
    let mark = c.self.invariant.0.top_fits in
    subst (λ (m : Marks). IsTrue (eqb p.out 0) → IsTopBack m) c.self.view_is
    (λ zero k lo hi. whole_held p.region.places p.size p.out long c.self.invariant.1.whole zero k (omega arith) (omega arith))
