use Rattle.std.proofs.Common.{arith, refl}
use Rattle.std.proofs.lemmas.Result.{on_ok_weaker}
use Rattle.ctl_frames.specs.declared.frame.Frame.TheVariants.{UndoingParts}
use Rattle.ctl_lifetimes.proofs.AfterFinalize.{frame_there}
use Rattle.ctl_lifetimes.proofs.AfterUndoing.{after_last, after_next, after_raising, undone_awaited}
use Rattle.ctl_frames.proofs.Words.{many_of}
use Rattle.ctl_lifetimes.proofs.undoing.resume_undoing_parts.Goals as goal

pub returns-in-Raised-clause-ok : goal.returns-in-Raised-clause-ok
returns-in-Raised-clause-ok g c =
    let d = c.drop_frame in
    let top = c.requires.1.1.0 in
    after_raising c.args.code.now c.args.engine.now d.new.self _ c.args.order c.args.ended c.in-Raised.field-0 c.args.record c.args.count c.args.first c.args.left g.s top.0 d.result c.requires.1.0 top.1 c.in-Raised.is d.ensures refl refl refl refl

pub drop_frame-requires-then-count-eq0 : goal.drop_frame-requires-then-count-eq0
drop_frame-requires-then-count-eq0 g c =
    let old = c.args.engine.now in
    let top = c.requires.1.1.0 in
    let frames = frame_there old.control.items (UndoingParts c.args.record c.args.left c.args.count c.args.first) top.0 top.1 in
    let f = undone_awaited c.args.code.now old g.s c.args.record c.args.count c.args.first c.args.left top.0 c.requires.1.0 top.1 in
    let parts = many_of old.spots.items _ _ f.spots in
    let many = old.control.ok.1 in
    let some = old.spots.ok.1 in
    record { control = omega (arith, frames, many); spots = omega (arith, parts, some) }

pub returns-then-count-eq0 : goal.returns-then-count-eq0
returns-then-count-eq0 g c =
    let code = c.args.code.now in
    let old = c.args.engine.now in
    let d = c.drop_frame-then-count-eq0 in
    let top = c.requires.1.1.0 in
    record {
      ok = after_last code old d.new.self _ c.args.order c.args.ended c.args.record c.args.count c.args.first c.args.left g.s top.0 d.result c.requires.1.0 top.1 c.in_default.not-Raised c.if-count-eq0.true d.ensures refl refl refl refl;
      err = tt;
    }

pub undo_next-requires : goal.undo_next-requires
undo_next-requires g c =
    let code = c.args.code.now in
    let old = c.args.engine.now in
    let top = c.requires.1.1.0 in
    let f = undone_awaited code old g.s c.args.record c.args.count c.args.first c.args.left top.0 c.requires.1.0 top.1 in
    let differs = c.if-count-eq0.false in
    (c.requires.0, (f, (omega (arith, differs), (refl, c.requires.1.1.1))))

pub returns : goal.returns
returns g c =
    let top = c.requires.1.1.0 in
    record {
      ok = on_ok_weaker c.undo_next.result
          (λ made. after_next c.args.code.now c.args.engine.now c.undo_next.new.engine c.args.order c.args.ended c.args.record c.args.count c.args.first c.args.left g.s top.0 c.requires.1.0 top.1 c.in_default.not-Raised made)
          c.undo_next.ensures.ok;
      err = c.undo_next.ensures.err;
    }
