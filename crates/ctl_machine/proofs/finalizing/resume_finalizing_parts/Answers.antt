use Rattle.std.proofs.Common.{arith, refl}
use Rattle.std.proofs.lemmas.Result.{on_ok_weaker}
use Rattle.ctl_frames.specs.declared.frame.Frame.TheVariants.{FinalizingParts}
use Rattle.ctl_lifetimes.proofs.AfterFinalize.{after_last, after_next, after_raising, frame_there, left_in, parts_awaited, parts_left}
use Rattle.ctl_frames.proofs.Chosen.{count_apart}
use Rattle.ctl_frames.proofs.Words.{many_of}
use Rattle.ctl_code.specs.Table.{controlled_of}
use Rattle.ctl_machine.proofs.finalizing.resume_finalizing_parts.Goals as goal

pub returns-in-Raised-clause-ok : goal.returns-in-Raised-clause-ok
returns-in-Raised-clause-ok g c =
    let d = c.drop_frame in
    let top = c.requires.1.1.0 in
    after_raising c.args.code.now c.args.engine.now d.new.self _ c.args.order c.args.ended c.in-Raised.field-0 c.args.cause c.args.record c.args.left c.args.failed g.s top.0 d.result c.requires.1.0 top.1 c.in-Raised.is d.ensures refl refl refl refl

pub is_empty-requires : goal.is_empty-requires
is_empty-requires g c =
    let top = c.requires.1.1.0 in
    let a = parts_left c.args.code.now c.args.engine.now g.s c.args.cause c.args.record c.args.left c.args.failed top.0 c.requires.1.0 top.1 in
    (a.below.rising, a.above.rising)

pub drop_frame-requires-then-is_empty : goal.drop_frame-requires-then-is_empty
drop_frame-requires-then-is_empty g c =
    let old = c.args.engine.now in
    let top = c.requires.1.1.0 in
    let frames = frame_there old.control.items (FinalizingParts c.args.cause c.args.record c.args.left c.args.failed) top.0 top.1 in
    let f = parts_awaited c.args.code.now old g.s c.args.cause c.args.record c.args.left c.args.failed top.0 c.requires.1.0 top.1 in
    let parts = many_of old.spots.items _ _ f.spots in
    let many = old.control.ok.1 in
    let some = old.spots.ok.1 in
    record { control = omega (arith, frames, many); spots = omega (arith, parts, some) }

pub returns-then-is_empty : goal.returns-then-is_empty
returns-then-is_empty g c =
    let d = c.drop_frame-then-is_empty in
    let top = c.requires.1.1.0 in
    record {
      ok = after_last c.args.code.now c.args.engine.now d.new.self _ c.args.order c.args.ended c.handed.result c.args.cause c.args.record c.args.left c.args.failed c.fails_with-fails.result g.s top.0 d.result c.requires.1.0 top.1 c.in_default.not-Raised c.fails_with-fails.ensures c.handed.ensures (c.is_empty.ensures.none c.if-is_empty.true) d.ensures refl refl refl refl;
      err = tt;
    }

pub finalize_next-requires : goal.finalize_next-requires
finalize_next-requires g c =
    let code = c.args.code.now in
    let old = c.args.engine.now in
    let top = c.requires.1.1.0 in
    let f = parts_awaited code old g.s c.args.cause c.args.record c.args.left c.args.failed top.0 c.requires.1.0 top.1 in
    let some = c.is_empty.ensures.some c.if-is_empty.false in
    let many = count_apart (controlled_of code c.args.record) (left_in g.s.control) c.args.left f.are in
    (c.requires.0, (f, (omega (arith, some, many), (refl, c.requires.1.1.1))))

pub returns : goal.returns
returns g c =
    let top = c.requires.1.1.0 in
    record {
      ok = on_ok_weaker c.finalize_next.result
          (λ made. after_next c.args.code.now c.args.engine.now c.finalize_next.new.engine c.args.order c.args.ended c.args.cause c.args.record c.args.left c.args.failed c.fails_with-fails.result g.s top.0 c.requires.1.0 top.1 c.in_default.not-Raised c.fails_with-fails.ensures made)
          c.finalize_next.ensures.ok;
      err = c.finalize_next.ensures.err;
    }
