use Rattle.std.proofs.Common.{List, ap, refl}
use Rattle.ctl_meaning.specs.Finalization.{Spot}
use Rattle.ctl_engine.specs.Shows.{kept, with_spots}
use Rattle.ctl_places.proofs.BlockCalls.{accepted_so, address_asked, given_makes, pool_dropped, refused_makes}
use Rattle.ctl_engine.proofs.Stocked.{with_stock}
use Rattle.ctl_places.proofs.pool_blocks.give_block.Goals as goal

pub pool_and_value-pool-requires : goal.pool_and_value-pool-requires
pool_and_value-pool-requires g c = (address_asked c.args.code.now c.args.engine.now c.args.place c.requires.1.0.0 g.s c.requires.1.0.1).asked

pub returns-in-None : goal.returns-in-None
returns-in-None g c = λ t.
    let code = c.args.code.now in
    let old = c.args.engine.now in
    let place = c.args.place in
    let s = g.s in
    let b = c.requires.1.0.1 in
    let i = address_asked code old place c.requires.1.0.0 s b in
    let read = c.pool_and_value-pool.ensures i.asked in
    let stock = c.give_to.new.stock in
    let back = c.give_to.ensures in
    let accepted = accepted_so code old place c.pool_and_value-pool.result.0 c.pool_and_value-pool.result.1 s stock c.give_to.result _ i read.0 read.1 c.in-None.is (back.accepted (kept old).next_object s.world b.inside.holds.objects b.inside.holds.pools) in
    given_makes code old _ place s stock i accepted back.objects back.needs refl
    (ap (λ (l : List Spot). with_stock stock (with_spots (kept old) l)) (pool_dropped code old place 3 c.take_last.new.self.items c.take_last.result s _ i.asked c.take_last.ensures.items)) refl refl

pub returns-in-Some : goal.returns-in-Some
returns-in-Some g c = λ t.
    let code = c.args.code.now in
    let old = c.args.engine.now in
    let place = c.args.place in
    let s = g.s in
    let b = c.requires.1.0.1 in
    let i = address_asked code old place c.requires.1.0.0 s b in
    let read = c.pool_and_value-pool.ensures i.asked in
    let stock = c.give_to.new.stock in
    let back = c.give_to.ensures in
    let accepted = accepted_so code old place c.pool_and_value-pool.result.0 c.pool_and_value-pool.result.1 s stock c.give_to.result _ i read.0 read.1 c.in-Some.is (back.accepted (kept old).next_object s.world b.inside.holds.objects b.inside.holds.pools) in
    refused_makes code old _ place c.in-Some.stop s b.stack stock i b.inside accepted back.objects back.needs refl refl refl refl
