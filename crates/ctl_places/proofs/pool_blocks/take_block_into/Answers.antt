use Rattle.std.proofs.Common.{refl, subst}
use Rattle.ctl_code.specs.Table.{by_take_block_into}
use Rattle.ctl_engine.specs.declared.engine.Engine.{Engine}
use Rattle.ctl_engine.specs.Moves.{Makes, here_of}
use Rattle.ctl_engine.specs.Shows.{kept}
use Rattle.ctl_places.proofs.BlocksInto.{exhausted_into, into_asked, served_into, stands_out, taken_into, unknown_into}
use Rattle.ctl_places.proofs.pool_blocks.take_block_into.Goals as goal

pub pool_below-pool-requires : goal.pool_below-pool-requires
pool_below-pool-requires g c = into_asked c.args.code.now c.args.engine.now c.args.place c.requires.0.0 c.args.record c.args.position g.s c.requires.0.1

pub store_address-requires : goal.store_address-requires
store_address-requires g c =
    let code = c.args.code.now in
    let old = c.args.engine.now in
    let place = c.args.place in
    let s = g.s in
    let b = c.requires.0.1 in
    let a = into_asked code old place c.requires.0.0 c.args.record c.args.position s b in
    let read = c.pool_below-pool.ensures a in
    let t = c.take_from.new.stock in
    let taken = c.in_ok-address.ensures in
    let served = served_into code old place c.pool_below-pool.result.0 c.pool_below-pool.result.1 s t c.in_ok-address.field-0 _ a read.0 read.1 c.in-Taken.is (taken.served (kept old).next_object s.world b.inside.holds.pools) in
    let mid : Engine = record old { stock = t } in
    (stands_out code old mid place c.in-Taken.address s t a served taken.objects taken.needs refl, c.requires.1)

pub returns-in-Taken-clause-ok : goal.returns-in-Taken-clause-ok
returns-in-Taken-clause-ok g c = λ type.
    let code = c.args.code.now in
    let old = c.args.engine.now in
    let place = c.args.place in
    let s = g.s in
    let b = c.requires.0.1 in
    let a = into_asked code old place c.requires.0.0 c.args.record c.args.position s b in
    let read = c.pool_below-pool.ensures a in
    let t = c.take_from.new.stock in
    let taken = c.in_ok-address.ensures in
    let served = served_into code old place c.pool_below-pool.result.0 c.pool_below-pool.result.1 s t c.in_ok-address.field-0 _ a read.0 read.1 c.in-Taken.is (taken.served (kept old).next_object s.world b.inside.holds.pools) in
    let mid : Engine = record old { stock = t } in
    subst (λ n. Makes code old c.store_address.new.engine (by_take_block_into n s.operands (here_of place s))) c.offset_of.ensures
    (taken_into code old mid c.store_address.new.engine place c.offset_of.result c.in-Taken.address s t a served refl refl c.store_address.ensures)

pub returns-in-Exhausted-clause-ok : goal.returns-in-Exhausted-clause-ok
returns-in-Exhausted-clause-ok g c = λ type.
    let code = c.args.code.now in
    let old = c.args.engine.now in
    let place = c.args.place in
    let s = g.s in
    let b = c.requires.0.1 in
    let a = into_asked code old place c.requires.0.0 c.args.record c.args.position s b in
    let read = c.pool_below-pool.ensures a in
    let t = c.take_from.new.stock in
    let taken = c.in_ok-address.ensures in
    let served = served_into code old place c.pool_below-pool.result.0 c.pool_below-pool.result.1 s t c.in_ok-address.field-0 _ a read.0 read.1 c.in-Exhausted.is (taken.served (kept old).next_object s.world b.inside.holds.pools) in
    let goes = c.go_on.ensures in
    exhausted_into code old c.go_on.new.self place _ s b.stack t a b.inside served taken.objects taken.needs (record { mode = goes.mode; kept = goes.kept; events = goes.events; picks = goes.picks })

pub returns-in-Unknown-clause-ok : goal.returns-in-Unknown-clause-ok
returns-in-Unknown-clause-ok g c = λ type.
    let code = c.args.code.now in
    let old = c.args.engine.now in
    let place = c.args.place in
    let s = g.s in
    let b = c.requires.0.1 in
    let a = into_asked code old place c.requires.0.0 c.args.record c.args.position s b in
    let read = c.pool_below-pool.ensures a in
    let t = c.take_from.new.stock in
    let taken = c.in_ok-address.ensures in
    let served = served_into code old place c.pool_below-pool.result.0 c.pool_below-pool.result.1 s t c.in_ok-address.field-0 _ a read.0 read.1 c.in-Unknown.is (taken.served (kept old).next_object s.world b.inside.holds.pools) in
    let goes = c.go_on-in-Unknown.ensures in
    unknown_into code old c.go_on-in-Unknown.new.self place _ s b.stack t a b.inside served taken.objects taken.needs (record { mode = goes.mode; kept = goes.kept; events = goes.events; picks = goes.picks })
