use Rattle.std.proofs.Common.{◌≡◌, ◌+◌, ◌≤◌, length, List, sym, ap, subst, ◌∙◌, arith}
use Rattle.raw_region.specs.Places.{Cut, held, with_run}
use Rattle.raw_region.proofs.PlaceLemmas.{length-held, length-with_run}
use Rattle.mark_pool.specs.Marks.{Marks}
use Rattle.pool_area.specs.declared.lot.Lot.{Lot}
use Rattle.pool_area.specs.Rows.{AreLots, end_of, HeldFrom}
use Rattle.pool_area.proofs.StackLemmas.{lots_popped, end_push, held_back, one_back}
use Rattle.pool_area.proofs.subpool.bring_back.Goals as goal

pub back-requires : goal.back-requires
back-requires g c =
    let at = c.args.subpool.now.start in
    let ls : List Lot = c.pop.new.self.items in
    let lot : Lot = c.in-Some.lot in
    let home = c.loop-lot.pool.home in
    let t = lots_popped home at ls lot (subst (AreLots home at) c.in-Some.ensures.items c.loop-lot.invariant.lots) in
    ap (λ (b : Cut). b.home) c.into_block.ensures ∙ t.1

pub loop-lot-preserved : goal.loop-lot-preserved
loop-lot-preserved g c =
    let at = c.args.subpool.now.start in
    let ls : List Lot = c.pop.new.self.items in
    let lot : Lot = c.in-Some.lot in
    let p : Marks = c.loop-lot.pool in
    let q : Marks = c.back.new.self in
    let b : Cut = c.into_block.result in
    let i = c.loop-lot.invariant in
    let t = lots_popped p.home at ls lot (subst (AreLots p.home at) c.in-Some.ensures.items i.lots) in
    let whole : end_of at c.loop-lot.subpool.lots.items ≡ end_of at ls + length lot.block.words = ap (end_of at) c.in-Some.ensures.items ∙ end_push at ls lot in
    let begins : b.start ≡ end_of at ls = ap (λ (x : Cut). x.start) c.into_block.ensures ∙ t.2 in
    let words : length b.words ≡ length lot.block.words = ap (λ (x : Cut). length x.words) c.into_block.ensures in
    let ends : b.start + length b.words ≡ end_of at c.loop-lot.subpool.lots.items = omega arith in
    let fits : end_of at c.loop-lot.subpool.lots.items ≤ length p.places = i.fits in
    let long = length-held b.words in
    let same = length-with_run p.places b.start (held b.words) (omega arith) in
    let after : q.places ≡ with_run p.places b.start (held b.words) = ap (λ (m : Marks). m.places) c.back.ensures in
    let home : q.home ≡ p.home = ap (λ (m : Marks). m.home) c.back.ensures in
    let as_long : length q.places ≡ length p.places = ap length after ∙ same in
    let from = held_back p.places b (end_of at c.loop-lot.subpool.lots.items) ends fits i.rest in
    record {
      lots = subst (λ h. AreLots h at ls) (sym home) t.0;
      rest = subst (λ m. HeldFrom m q.places) begins (subst (HeldFrom b.start) (sym after) from);
      fits = omega arith;
      pool = one_back c.args.pool.now p q b (omega arith) c.back.ensures i.pool;
      subpool = i.subpool;
    }
