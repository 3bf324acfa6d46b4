use Rattle.std.proofs.Common.{refl}
use Rattle.ctl_lifetimes.proofs.Adjusted.{adjusts_it, no_adjust}
use Rattle.ctl_engine.proofs.MasterOf.{object_or_there}
use Rattle.ctl_lifetimes.proofs.adjusting.adjust_among.Goals as goal

pub call_adjust_of-requires : goal.call_adjust_of-requires
call_adjust_of-requires g c =
    let old = c.args.engine.now in
    let x = c.args.adjustment in
    let there = c.requires.1.1.1.1.1.1.1 in
    let n = g.t.spot.object in
    (c.requires.0, (c.requires.1.0, (c.requires.1.1.0, (c.requires.1.1.1.0, (c.requires.1.1.1.1.0, (c.requires.1.1.1.1.1.0, (there.0, adjusts_it c.args.code.now old c.in-Some.entry x there.0 g.t (object_or_there old.owned.items old.stock.objects n n there.0 (there.1, there.2) refl) c.in-Some.ensures.some, there.3)))))))

pub adjusted-requires : goal.adjusted-requires
adjusted-requires g c =
    let doubles = c.requires.1.1.1.1.0 in
    (c.requires.1.0, (c.requires.1.1.1.1.1.0, (c.requires.1.1.1.1.1.1.0, (c.requires.1.1.1.0.call.events, (doubles.spot, doubles.part)))))

pub returns-in-None : goal.returns-in-None
returns-in-None g c =
    let there = c.requires.1.1.1.1.1.1.1 in
    no_adjust c.args.code.now c.args.engine.now c.adjusted.new.engine c.args.adjustment there.1 g.t c.requires.1.0 there.2.found c.in-None.ensures.none c.adjusted.ensures
