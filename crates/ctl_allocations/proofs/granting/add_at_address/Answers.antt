use Rattle.std.proofs.Common.{◌≡◌, ◌+◌, ◌∙◌, ◌∷◌, ◌++◌, [], List, arith, ap, refl, replicate, reverse, subst, sym}
use Rattle.ctl_meaning.specs.Changes.{new_object}
use Rattle.ctl_meaning.specs.Finalization.{Spot}
use Rattle.ctl_meaning.specs.Pools.{hold_block}
use Rattle.ctl_meaning.specs.World as W
use Rattle.ctl_meaning.specs.World.{Allocated, InBlock}
use Rattle.ctl_storage.specs.Calls.{OnPlaced, OnRefused}
use Rattle.ctl_storage.specs.declared.pools.Placing.{Placing}
use Rattle.ctl_objects.specs.Pools.{ShowsPools}
use Rattle.ctl_objects.specs.Stock.{Stock}
use Rattle.ctl_code.specs.Table.{cells_for, units_for}
use Rattle.ctl_engine.specs.declared.engine.Engine.{Engine}
use Rattle.ctl_frames.specs.declared.frame.Frame.{Frame}
use Rattle.ctl_frames.specs.declared.frame.Numbered.{Numbered}
use Rattle.ctl_places.specs.Granting.{Places}
use Rattle.ctl_engine.specs.Shows.{kept}
use Rattle.ctl_places.proofs.Granted.{block_shown, member_kept, units_suffice}
use Rattle.ctl_allocations.proofs.Placed.{answered, not_placed, test_fails, test_passes}
use Rattle.ctl_engine.proofs.Stocked.{with_stock}
use Rattle.ctl_allocations.proofs.granting.add_at_address.Goals as goal

pub allocate_in_block-requires-clause-size : goal.allocate_in_block-requires-clause-size
allocate_in_block-requires-clause-size g c =
    let enough = units_suffice c.args.code.now c.args.of c.requires.0 in
    let cells = c.cells_for-size.ensures in
    let units = c.units_for-units.ensures in
    omega (arith, enough, cells, units)

pub returns-in-Placed-clause-ok : goal.returns-in-Placed-clause-ok
returns-in-Placed-clause-ok g c =
    let code = c.args.code.now in
    let old = c.args.engine.now in
    let w = g.s.world in
    let h = c.requires.1.0 in
    let n = old.numbered.objects + 1 in
    let set = c.args.set in
    let of = c.args.of in
    let pool = c.args.block.pool in
    let a = c.args.block.address in
    let r = c.in_ok-placing.ensures in
    let x : Stock = c.allocate_in_block.new.self in
    let is = c.in-Placed.is in
    let answer = answered pool a c.units_for-units.result (units_for code of) w old.stock.objects c.in_ok-placing.placing h.objects c.units_for-units.ensures (r.answer n w.pools h.pools) in
    let passes = test_passes pool a (units_for code of) w c.requires.1.1.1.1.1 (sym is ∙ answer) in
    let objects : x.objects ≡ old.stock.objects ++ new_object n of (replicate c.cells_for-size.result 0) (Allocated set (InBlock pool a)) ∷ [] =
    subst (λ (y : Placing). OnPlaced y (x.objects ≡ old.stock.objects ++ new_object n of (replicate c.cells_for-size.result 0) (Allocated set (InBlock pool a)) ∷ [])) is r.objects in
    let pools : (y : W.Pools) → ShowsPools n y old.stock → ShowsPools (n + 1) (hold_block pool a n y) x =
    subst (λ (z : Placing). OnPlaced z ((y : W.Pools) → ShowsPools n y old.stock → ShowsPools (n + 1) (hold_block pool a n y) x)) is r.pools in
    let control = ap (λ (l : List Frame). reverse l) c.reserve.ensures.items in
    let all = ap (λ (l : List Frame). record (with_stock x (kept old)) { control = l; spots = c.reserve-2.new.vector.items; next_object = n + 1 }) control ∙ ap (λ (l : List Spot). record (with_stock x (kept old)) { spots = l; next_object = n + 1 }) c.reserve-2.ensures.items in
    let numbered : Numbered = record { objects = n; collections = old.numbered.collections } in
    let new : Engine = record old { control = c.reserve.new.vector; spots = c.reserve-2.new.vector; stock = c.allocate_in_block.new.self; numbered = numbered } in
    subst (λ (z : Placing). Places code old new set of pool a w z) (sym is) (
      passes,
      record {
        kept = all ∙ member_kept (kept old) x n set of c.cells_for-size.result (cells_for code of) (InBlock pool a) refl c.cells_for-size.ensures objects c.allocate_in_block.ensures.needs;
        pools = block_shown code set pool a (n + 1) of w x (subst (λ k. ShowsPools (n + 1) (hold_block pool a k w.pools) x) (sym h.next_object) (pools w.pools h.pools));
      },
    )

pub returns-in_default-clause-ok : goal.returns-in_default-clause-ok
returns-in_default-clause-ok g c =
    let code = c.args.code.now in
    let old = c.args.engine.now in
    let w = g.s.world in
    let h = c.requires.1.0 in
    let n = old.numbered.objects + 1 in
    let of = c.args.of in
    let pool = c.args.block.pool in
    let a = c.args.block.address in
    let r = c.in_ok-placing.ensures in
    let x : Stock = c.allocate_in_block.new.self in
    let is = not_placed c.in_ok-placing.placing c.in_default.not-Placed in
    let answer = answered pool a c.units_for-units.result (units_for code of) w old.stock.objects c.in_ok-placing.placing h.objects c.units_for-units.ensures (r.answer n w.pools h.pools) in
    let fails = test_fails pool a (units_for code of) w c.requires.1.1.1.1.1 (sym is ∙ answer) in
    let same : x ≡ old.stock = subst (λ (y : Placing). OnRefused y (x ≡ old.stock)) is r.refused in
    let control = ap (λ (l : List Frame). reverse l) c.reserve.ensures.items in
    let all = ap (λ (l : List Frame). record (with_stock x (kept old)) { control = l; spots = c.reserve-2.new.vector.items }) control ∙ (ap (λ (l : List Spot). record (with_stock x (kept old)) { spots = l }) c.reserve-2.ensures.items ∙ ap (λ (y : Stock). with_stock y (kept old)) same) in
    let new : Engine = record old { control = c.reserve.new.vector; spots = c.reserve-2.new.vector; stock = c.allocate_in_block.new.self } in
    subst (λ (z : Placing). Places code old new c.args.set of pool a w z) (sym is) (fails, record { mode = refl; kept = all; events = refl; picks = refl })
