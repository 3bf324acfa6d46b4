use Rattle.std.proofs.Common.{◌≡◌, ◌+◌, ◌≤◌, ap, arith, rules, length}
use Rattle.mark_pool.proofs.MarkCounts.{within, all_within, counts_back, refilled, seen_back}
use Rattle.mark_pool.proofs.OutCounts.{out_back}
use Rattle.mark_pool.proofs.Steps.{stands_back}
use Rattle.mark_pool.proofs.pool.MarkPool.back.Goals as goal

pub overflow_sub-self : goal.overflow_sub-self
overflow_sub-self g c =
    let p = c.self.inside in
    let block = c.args.block in
    let fits : block.start + length block.words ≤ p.size = omega (arith, c.self.invariant.0.places, c.home.ensures.within) in
    let fewer = out_back p.region.places p.size block.start block.words c.self.invariant.0.places fits c.home.ensures.were_out p.size in
    let long : length c.words-len.result.now ≡ length block.words = ap length c.words-len.ensures in
    omega (arith, c.self.invariant.1.whole)

pub bring_back-requires : goal.bring_back-requires
bring_back-requires g c =
    let p = c.self.inside in
    let block = c.args.block in
    let fits : block.start + length block.words ≤ p.size = omega (arith, c.self.invariant.0.places, c.home.ensures.within) in
    rw (c.start-start.ensures, c.words-len.ensures)
    (within p.region.places p.size block.start block.words c.self.invariant.0.places fits c.home.ensures.were_out p.top c.self.invariant.1.top)

pub bring_back_each-requires : goal.bring_back_each-requires
bring_back_each-requires g c =
    let p = c.self.inside in
    let block = c.args.block in
    let fits : block.start + length block.words ≤ p.size = omega (arith, c.self.invariant.0.places, c.home.ensures.within) in
    rw (c.start-start.ensures, c.words-len.ensures, c.as_mut_slice.ensures.value)
    (all_within p.region.places p.size block.start block.words c.self.invariant.0.places fits c.home.ensures.were_out p.older.items c.self.invariant.1.older)

pub invariant_of-self : goal.invariant_of-self
invariant_of-self g c =
    let p = c.self.inside in
    let block = c.args.block in
    let s = c.self.invariant.0 in
    let fits : block.start + length block.words ≤ p.size = omega (arith, s.places, c.home.ensures.within) in
    let older = refilled p.older.items c.bring_back_each.new.marks block.start (length block.words)
    (rw (← c.start-start.ensures, ← c.words-len.ensures, ← c.as_mut_slice.ensures.value) c.bring_back_each.ensures) in
    rw (older, c.bring_back.ensures, c.start-start.ensures, c.words-len.ensures) (
      stands_back p.region c.home.new.self p.size p.used block.start block.words p.top p.older.items s c.home.ensures.within c.home.ensures.places,
      rw c.home.ensures.places
          (counts_back p.region.places p.size block.start block.words s.places fits c.home.ensures.were_out p.out p.top p.older.items c.self.invariant.1),
    )

pub returns : goal.returns
returns g c =
    let p = c.self.inside in
    let block = c.args.block in
    let older = refilled p.older.items c.bring_back_each.new.marks block.start (length block.words)
    (rw (← c.start-start.ensures, ← c.words-len.ensures, ← c.as_mut_slice.ensures.value) c.bring_back_each.ensures) in
    rw (older, c.bring_back.ensures, seen_back block.start (length block.words) p.older.items, ← c.self.view_is, c.home.ensures.home, c.home.ensures.places) (search rules)
