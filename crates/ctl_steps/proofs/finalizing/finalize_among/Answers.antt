use Rattle.std.proofs.Common.{refl}
use Rattle.ctl_lifetimes.proofs.Finishing.{calls_it, no_own}
use Rattle.ctl_engine.proofs.MasterOf.{object_or_there}
use Rattle.ctl_steps.proofs.finalizing.finalize_among.Goals as goal

pub call_finalize-requires : goal.call_finalize-requires
call_finalize-requires g c =
    let old = c.args.engine.now in
    let x = c.args.finalization in
    let there = c.requires.1.1.1.1.1 in
    let n = g.t.spot.object in
    (c.requires.0, (c.requires.1.0, (c.requires.1.1.0, (c.requires.1.1.1.0, (c.requires.1.1.1.1.0, (there.0, calls_it c.args.code.now old c.in-Some.entry x.cause x.record_type there.0 g.t (object_or_there old.owned.items old.stock.objects n n there.0 (there.1, there.2) refl) c.in-Some.ensures.some, there.3))))))

pub returns-in-None : goal.returns-in-None
returns-in-None g c =
    let x = c.args.finalization in
    let there = c.requires.1.1.1.1.1 in
    no_own c.args.code.now c.args.engine.now c.finalize_components.new.engine x.cause x.record_type there.1 g.t c.requires.1.0 there.2.found c.in-None.ensures.none c.finalize_components.ensures
