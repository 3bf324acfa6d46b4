use Rattle.std.proofs.Common.{refl, subst, sym, Option}
use Rattle.ctl_tree.specs.declared.event.Owner.{Owner}
use Rattle.ctl_code.specs.Table.{adjusted}
use Rattle.ctl_engine.specs.declared.engine.Engine.{Engine}
use Rattle.ctl_frames.specs.declared.frame.Mode.TheVariants as ModeOf
use Rattle.ctl_engine.specs.Moves.{Makes}
use Rattle.ctl_lifetimes.proofs.AfterAdjust.{after_own, after_own_raised, own_drops}
use Rattle.ctl_lifetimes.proofs.AfterFinalize.{finished_in}
use Rattle.ctl_lifetimes.proofs.Noting.{notes_none}
use Rattle.ctl_lifetimes.proofs.adjusting.resume_adjusting_own.Goals as goal

pub returns-in-Raised-clause-ok : goal.returns-in-Raised-clause-ok
returns-in-Raised-clause-ok g c =
    let d = c.drop_frame in
    after_own_raised c.args.code.now c.args.engine.now d.new.self _ c.args.ended c.in-Raised.field-0 c.args.creation c.args.record c.args.failed g.s c.requires.1.0 d.result c.requires.0 c.requires.1.1 c.in-Raised.is d.ensures refl refl refl refl

pub returns-in-None-clause-ok : goal.returns-in-None-clause-ok
returns-in-None-clause-ok g c =
    let code = c.args.code.now in
    let old = c.args.engine.now in
    let top = c.requires.1 in
    let d = c.drop_frame-in-None in
    let mid = d.new.self in
    let x = finished_in g.s.control g.s.world in
    let drops = own_drops code old mid g.s c.args.creation c.args.record c.args.failed top.0 d.result c.requires.0 top.1 d.ensures in
    let new : Engine = record mid { mode = ModeOf.Giving c.handed.result } in
    let made = subst (λ (z : Option Owner). Makes code mid new (adjusted code z x.spot c.args.record c.args.failed x.control x.world)) (sym c.in-None.is) (notes_none code mid new c.args.record c.args.failed c.handed.result x drops.0 refl refl c.handed.ensures refl refl) in
    after_own code old mid new c.args.ended c.args.creation c.args.record c.args.failed g.s top.0 c.requires.0 top.1 c.in_default.not-Raised d.ensures.events d.ensures.picks made
