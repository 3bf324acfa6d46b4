use Rattle.std.proofs.Common.{List, ap, drop, refl, subst, sym}
use Rattle.ctl_meaning.specs.Finalization.{Spot}
use Rattle.ctl_code.specs.States.{Word}
use Rattle.ctl_engine.specs.declared.engine.Engine.{Engine}
use Rattle.ctl_places.specs.PoolBlocks.{grant_in, world_of}
use Rattle.ctl_engine.specs.Shows.{Holds, kept, with_spots}
use Rattle.ctl_places.proofs.BlockCalls.{block_out, exhausted_makes, pool_dropped, served_so, size_asked, taken_makes, unknown_makes}
use Rattle.ctl_engine.proofs.Stocked.{with_stock}
use Rattle.ctl_places.proofs.pool_blocks.take_block.Goals as goal

pub pool_and_value-pool-requires : goal.pool_and_value-pool-requires
pool_and_value-pool-requires g c = size_asked c.args.code.now c.args.engine.now c.args.place c.requires.1.0.0 c.args.out c.args.slot g.s c.requires.1.0.1

pub give-requires : goal.give-requires
give-requires g c =
    let code = c.args.code.now in
    let old = c.args.engine.now in
    let place = c.args.place in
    let s = g.s in
    let b = c.requires.1.0.1 in
    let a = size_asked code old place c.requires.1.0.0 c.args.out c.args.slot s b in
    let read = c.pool_and_value-pool.ensures a in
    let t = c.take_from.new.stock in
    let taken = c.in_ok-address.ensures in
    let served = served_so code old place c.pool_and_value-pool.result.0 c.pool_and_value-pool.result.1 s t c.in_ok-address.field-0 _ a read.0 read.1 c.in-Taken.is (taken.served (kept old).next_object s.world b.inside.holds.pools) in
    let out = block_out code old place c.in-Taken.address s t a served taken.objects taken.needs in
    let w = world_of (grant_in s.operands s.world) s.world in
    let dropped = pool_dropped code old place 2 c.take_last.new.self.items c.take_last.result s s.operands a c.take_last.ensures.items in
    subst (λ (l : List Word). Holds code (with_stock t (with_spots (kept old) c.take_last.new.self.items)) s.control l w) (sym (ap (λ (l : List Word). drop 3 l) a.are))
    (subst (λ (l : List Spot). Holds code (with_stock t (with_spots (kept old) l)) s.control a.rest w) (sym dropped) out.holds)

pub returns-in-Taken-clause-ok : goal.returns-in-Taken-clause-ok
returns-in-Taken-clause-ok g c = λ type.
    let code = c.args.code.now in
    let old = c.args.engine.now in
    let place = c.args.place in
    let s = g.s in
    let b = c.requires.1.0.1 in
    let a = size_asked code old place c.requires.1.0.0 c.args.out c.args.slot s b in
    let read = c.pool_and_value-pool.ensures a in
    let t = c.take_from.new.stock in
    let taken = c.in_ok-address.ensures in
    let served = served_so code old place c.pool_and_value-pool.result.0 c.pool_and_value-pool.result.1 s t c.in_ok-address.field-0 _ a read.0 read.1 c.in-Taken.is (taken.served (kept old).next_object s.world b.inside.holds.pools) in
    let dropped = pool_dropped code old place 2 c.take_last.new.self.items c.take_last.result s s.operands a c.take_last.ensures.items in
    let mid : Engine = record old { spots = c.take_last.new.self; stock = t } in
    taken_makes code old mid c.give.new.engine place c.args.out c.args.slot c.in-Taken.address s t a served taken.objects taken.needs
    (ap (λ (l : List Spot). with_stock t (with_spots (kept old) l)) dropped) refl refl c.give.ensures.gives

pub returns-in-Exhausted-clause-ok : goal.returns-in-Exhausted-clause-ok
returns-in-Exhausted-clause-ok g c = λ type.
    let code = c.args.code.now in
    let old = c.args.engine.now in
    let place = c.args.place in
    let s = g.s in
    let b = c.requires.1.0.1 in
    let a = size_asked code old place c.requires.1.0.0 c.args.out c.args.slot s b in
    let read = c.pool_and_value-pool.ensures a in
    let t = c.take_from.new.stock in
    let taken = c.in_ok-address.ensures in
    let served = served_so code old place c.pool_and_value-pool.result.0 c.pool_and_value-pool.result.1 s t c.in_ok-address.field-0 _ a read.0 read.1 c.in-Exhausted.is (taken.served (kept old).next_object s.world b.inside.holds.pools) in
    let goes = c.go_on.ensures in
    exhausted_makes code old c.go_on.new.self place c.args.out c.args.slot s b.stack t a b.inside served taken.objects taken.needs (record { mode = goes.mode; kept = goes.kept; events = goes.events; picks = goes.picks })

pub returns-in-Unknown-clause-ok : goal.returns-in-Unknown-clause-ok
returns-in-Unknown-clause-ok g c = λ type.
    let code = c.args.code.now in
    let old = c.args.engine.now in
    let place = c.args.place in
    let s = g.s in
    let b = c.requires.1.0.1 in
    let a = size_asked code old place c.requires.1.0.0 c.args.out c.args.slot s b in
    let read = c.pool_and_value-pool.ensures a in
    let t = c.take_from.new.stock in
    let taken = c.in_ok-address.ensures in
    let served = served_so code old place c.pool_and_value-pool.result.0 c.pool_and_value-pool.result.1 s t c.in_ok-address.field-0 _ a read.0 read.1 c.in-Unknown.is (taken.served (kept old).next_object s.world b.inside.holds.pools) in
    let goes = c.go_on-in-Unknown.ensures in
    unknown_makes code old c.go_on-in-Unknown.new.self place c.args.out c.args.slot s b.stack t a b.inside served taken.objects taken.needs (record { mode = goes.mode; kept = goes.kept; events = goes.events; picks = goes.picks })
