use Rattle.std.proofs.Common.{List, None, ap, length, refl, subst, sym, ℕ, ◌+◌, ◌<◌, ◌∙◌, ◌≡◌, ◌≤◌}
use Rattle.std.specs.Prelude.{vec_capacity, vec_len}
use Rattle.std.specs.FinMap.{get}
use Rattle.ctl_objects.specs.Order as Order
use Rattle.ctl_engine.specs.Declaring.{IsSize}
use Rattle.ctl_engine.specs.Shows.{Kept, kept, stock_of}
use Rattle.ctl_engine.proofs.Newborn.{some_masters, has_object}
use Rattle.ctl_engine.proofs.Owned.{newest_above}
use Rattle.ctl_allocations.proofs.PoolDeclared.{bad_makes, discriminants, discriminants_within, no_pool, pool_made, pool_makes}
use Rattle.ctl_allocations.proofs.pools.declare_pool.Goals as goal

pub operand_size-requires : goal.operand_size-requires
operand_size-requires g c = discriminants_within c.args.code.now c.args.engine.now c.args.place c.args.slot c.args.record c.args.at c.args.order g.s c.requires.1.0

pub returns-in_default-clause-ok : goal.returns-in_default-clause-ok
returns-in_default-clause-ok g c =
    let b = c.requires.1.0 in
    let d = discriminants c.args.code.now c.args.engine.now c.args.place c.args.slot c.args.record c.args.at c.args.order g.s b in
    bad_makes c.args.code.now c.args.engine.now c.go_on.new.self c.args.place c.args.slot c.args.record c.args.at c.args.order g.s b
    (subst (λ x. IsSize c.args.order d.lower d.upper x) c.in_default.is (c.operand_size.ensures d.lower d.upper d.lower_read d.upper_read)) c.go_on.ensures

pub newest-newest-requires : goal.newest-newest-requires
newest-newest-requires g c = let b = c.requires.1.0 in some_masters c.args.code.now c.args.engine.now b.stack g.s b.inside

pub create_pool-requires-clause-size : goal.create_pool-requires-clause-size
create_pool-requires-clause-size g c =
    let d = discriminants c.args.code.now c.args.engine.now c.args.place c.args.slot c.args.record c.args.at c.args.order g.s c.requires.1.0 in
    (subst (λ x. IsSize c.args.order d.lower d.upper x) c.in-Some.is (c.operand_size.ensures d.lower d.upper d.lower_read d.upper_read)).1

pub create_pool-requires-clause-new : goal.create_pool-requires-clause-new
create_pool-requires-clause-new g c =
    let e = kept c.args.engine.now in
    subst (λ (y : Kept). get y.sizes y.next_object ≡ None) (sym c.in_ok-reserve_object.ensures.same.kept) (no_pool e.next_object g.s.world.pools (stock_of e) c.requires.1.0.inside.holds.pools)

pub create_pool-requires-clause-cell : goal.create_pool-requires-clause-cell
create_pool-requires-clause-cell g c =
    let b = c.requires.1.0 in
    let has = has_object c.args.code.now c.args.engine.now b.stack c.args.slot c.args.record g.s g.s.operands c.newest-newest.result b.inside (c.args.slot, b.fine.2) c.newest-newest.ensures.last in
    subst (λ (l : List ℕ). c.args.slot < c.newest-newest.result.slots → c.newest-newest.result.base + c.args.slot < length l) (sym (ap (λ (e : Kept). e.cells) c.in_ok-reserve_object.ensures.same.kept)) has.made.within

pub create_pool-requires-clause-newest : goal.create_pool-requires-clause-newest
create_pool-requires-clause-newest g c =
    let b = c.requires.1.0 in
    let m = c.newest-newest.result in
    let has = has_object c.args.code.now c.args.engine.now b.stack c.args.slot c.args.record g.s g.s.operands m b.inside (c.args.slot, b.fine.2) c.newest-newest.ensures.last in
    subst (λ (e : Kept). Order.AreUpTo m.number e.objects) (sym c.in_ok-reserve_object.ensures.same.kept)
    (newest_above c.args.code.now (kept c.args.engine.now) g.s.control g.s.operands g.s.world m has.first.0 b.inside.holds has.first.1)

pub begin_declared-requires : goal.begin_declared-requires
begin_declared-requires g c =
    let made = c.in_ok-create_pool.ensures in
    let room = c.in_ok-reserve_object.ensures in
    let pool = pool_made c.args.code.now c.args.engine.now c.reserve_object.new.engine c.create_pool.new.engine c.args.place c.args.slot c.args.record c.args.at c.size_of-cells.result c.args.order g.s c.newest-newest.result c.in-Some.size c.requires.1.0 c.newest-newest.ensures.last room.same.kept made.kept c.size_of-cells.ensures made.number made.pools in
    (refl, (pool.newest, (subst (λ v. vec_len v + 2 ≤ vec_capacity v) (sym made.control) room.control, subst (λ v. vec_len v < vec_capacity v) (sym made.spots) room.spots)))

pub returns-clause-ok : goal.returns-clause-ok
returns-clause-ok g c =
    let code = c.args.code.now in
    let old = c.args.engine.now in
    let b = c.requires.1.0 in
    let m = c.newest-newest.result in
    let made = c.in_ok-create_pool.ensures in
    let room = c.in_ok-reserve_object.ensures in
    let d = discriminants code old c.args.place c.args.slot c.args.record c.args.at c.args.order g.s b in
    let good = subst (λ x. IsSize c.args.order d.lower d.upper x) c.in-Some.is (c.operand_size.ensures d.lower d.upper d.lower_read d.upper_read) in
    let has = has_object code old b.stack c.args.slot c.args.record g.s g.s.operands m b.inside (c.args.slot, b.fine.2) c.newest-newest.ensures.last in
    let pool = pool_made code old c.reserve_object.new.engine c.create_pool.new.engine c.args.place c.args.slot c.args.record c.args.at c.size_of-cells.result c.args.order g.s m c.in-Some.size b c.newest-newest.ensures.last room.same.kept made.kept c.size_of-cells.ensures made.number made.pools in
    pool_makes code old c.create_pool.new.engine c.begin_declared.new.engine c.args.place c.args.slot c.args.record c.args.at c.args.order g.s c.in-Some.size b good pool m.number has.own
    (ap (λ v. v.items) made.events ∙ room.same.events) (ap (λ v. v.items) made.picks ∙ room.same.picks) c.begin_declared.ensures
