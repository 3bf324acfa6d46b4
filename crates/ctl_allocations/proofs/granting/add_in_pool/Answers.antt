use Rattle.std.proofs.Common.{◌≡◌, ◌+◌, ◌∙◌, ◌∷◌, ◌++◌, [], Option, ℕ, arith, ap, refl, replicate, subst, sym}
use Rattle.std.specs.Prelude.{IfNone, IfSome}
use Rattle.ctl_meaning.specs.Changes.{new_object}
use Rattle.ctl_meaning.specs.Pools.{hold_block}
use Rattle.ctl_meaning.specs.World as W
use Rattle.ctl_meaning.specs.World.{Allocated, InBlock}
use Rattle.ctl_storage.specs.Calls.{with_taken}
use Rattle.ctl_objects.specs.Pools.{ShowsPools}
use Rattle.ctl_objects.specs.Stock.{Stock}
use Rattle.ctl_code.specs.Table.{cells_for}
use Rattle.ctl_places.specs.Granting.{Adds, Lacks, pool_grants}
use Rattle.ctl_engine.specs.Shows.{kept}
use Rattle.ctl_frames.specs.declared.frame.Mode.TheVariants as ModeOf
use Rattle.ctl_code.specs.declared.code.Way.TheVariants as WayOf
use Rattle.ctl_places.proofs.Granted.{adds_block, lacks_block, member_kept, units_suffice}
use Rattle.ctl_engine.proofs.Stocked.{with_stock}
use Rattle.ctl_allocations.proofs.granting.add_in_pool.Goals as goal

pub allocate_in_pool-requires-clause-size : goal.allocate_in_pool-requires-clause-size
allocate_in_pool-requires-clause-size g c =
    let enough = units_suffice c.args.code.now c.args.of c.requires.0 in
    let cells = c.cells_for-size.ensures in
    let units = c.units_for-units.ensures in
    omega (arith, enough, cells, units)

pub returns-in-Some-clause-ok : goal.returns-in-Some-clause-ok
returns-in-Some-clause-ok g c =
    let code = c.args.code.now in
    let old = c.args.engine.now in
    let w = g.s.world in
    let h = c.requires.1.0 in
    let n = old.numbered.objects + 1 in
    let set = c.args.set in
    let of = c.args.of in
    let pool = c.args.pool in
    let size = c.cells_for-size.result in
    let units = c.units_for-units.result in
    let x : Stock = c.allocate_in_pool.new.self in
    let a = c.in-Some.field-0 in
    let r = c.in_ok-allocate_in_pool.ensures in
    let objects : x.objects ≡ old.stock.objects ++ new_object n of (replicate size 0) (Allocated set (InBlock pool a)) ∷ [] =
    subst (λ (o : Option ℕ). IfSome o (λ i. x.objects ≡ old.stock.objects ++ new_object n of (replicate size 0) (Allocated set (InBlock pool i)) ∷ [])) c.in-Some.is r.objects in
    let pools : (y : W.Pools) → ShowsPools n y old.stock → ShowsPools (n + 1) (hold_block pool a n (with_taken pool units y)) x =
    subst (λ (o : Option ℕ). IfSome o (λ i. (y : W.Pools) → ShowsPools n y old.stock → ShowsPools (n + 1) (hold_block pool i n (with_taken pool units y)) x)) c.in-Some.is r.pools in
    let new = with_stock x (record (kept old) { next_object = n + 1 }) in
    subst (λ u. Adds code (kept old) new set of w (pool_grants pool u w)) c.units_for-units.ensures
    (adds_block code (kept old) new g.s.control g.s.operands set of pool units a w h (sym c.in-Some.is ∙ r.answer n w.pools h.pools)
    (member_kept (kept old) x n set of size (cells_for code of) (InBlock pool a) refl c.cells_for-size.ensures objects c.allocate_in_pool.ensures.needs, pools w.pools h.pools))

pub returns-in-None-clause-ok : goal.returns-in-None-clause-ok
returns-in-None-clause-ok g c =
    let old = c.args.engine.now in
    let w = g.s.world in
    let h = c.requires.1.0 in
    let pool = c.args.pool in
    let x : Stock = c.allocate_in_pool.new.self in
    let r = c.in_ok-allocate_in_pool.ensures in
    let same : x ≡ old.stock = subst (λ (o : Option ℕ). IfNone o (x ≡ old.stock)) c.in-None.is r.exhausted in
    let lacks = lacks_block pool c.units_for-units.result w (sym c.in-None.is ∙ r.answer (old.numbered.objects + 1) w.pools h.pools) in (
      subst (λ u. Lacks (pool_grants pool u w) (ModeOf.Transfers (WayOf.Raise 2))) c.units_for-units.ensures lacks,
      record { mode = refl; kept = ap (λ (y : Stock). with_stock y (kept old)) same; events = refl; picks = refl },
    )
