use Rattle.std.proofs.Common.{arith, refl}
use Rattle.std.proofs.lemmas.Result.{on_ok_weaker}
use Rattle.ctl_code.specs.Table.{controlled_of}
use Rattle.ctl_lifetimes.proofs.AfterAdjust.{after_last, after_next, after_raising, last_awaited, parts_awaited}
use Rattle.ctl_lifetimes.proofs.AfterFinalize.{left_in}
use Rattle.ctl_frames.proofs.StillLeft.{count_left}
use Rattle.ctl_lifetimes.proofs.adjusting.resume_adjusting.Goals as goal

pub returns-in-Raised-clause-ok : goal.returns-in-Raised-clause-ok
returns-in-Raised-clause-ok g c =
    let d = c.drop_frame in
    let top = c.requires.1.1.0 in
    after_raising c.args.code.now c.args.engine.now d.new.self _ c.args.order c.args.ended c.in-Raised.field-0 c.args.creation c.args.record c.args.left g.s top.0 d.result c.requires.1.0 top.1 c.in-Raised.is d.ensures refl refl refl refl

pub adjust_newest-requires : goal.adjust_newest-requires
adjust_newest-requires g c =
    let top = c.requires.1.1.0 in
    (c.requires.0, ((c.args.left, last_awaited c.args.code.now c.args.engine.now g.s c.args.creation c.args.record c.args.left top.0 c.requires.1.0 top.1 c.if-left.true), c.requires.1.1.1))

pub returns-then-left : goal.returns-then-left
returns-then-left g c =
    let top = c.requires.1.1.0 in
    record {
      ok = on_ok_weaker c.adjust_newest.result
          (λ made. after_last c.args.code.now c.args.engine.now c.adjust_newest.new.engine c.args.order c.args.ended c.args.creation c.args.record c.args.left c.says_failed-failed.result g.s top.0 c.requires.1.0 top.1 c.in_default.not-Raised c.says_failed-failed.ensures c.if-left.true made)
          c.adjust_newest.ensures.ok;
      err = c.adjust_newest.ensures.err;
    }

pub adjust_next-requires : goal.adjust_next-requires
adjust_next-requires g c =
    let code = c.args.code.now in
    let top = c.requires.1.1.0 in
    let f = parts_awaited code c.args.engine.now g.s c.args.creation c.args.record c.args.left top.0 c.requires.1.0 top.1 in
    let many = count_left (controlled_of code c.args.record) (left_in g.s.control) c.args.left f.are in
    let rising = f.are.rising in
    let differs = c.if-left.false in
    (c.requires.0, (f, (omega (arith, many, rising, differs), (refl, c.requires.1.1.1))))

pub returns : goal.returns
returns g c =
    let top = c.requires.1.1.0 in
    record {
      ok = on_ok_weaker c.adjust_next.result
          (λ made. after_next c.args.code.now c.args.engine.now c.adjust_next.new.engine c.args.order c.args.ended c.args.creation c.args.record c.args.left c.says_failed-failed.result g.s top.0 c.requires.1.0 top.1 c.in_default.not-Raised c.says_failed-failed.ensures made)
          c.adjust_next.ensures.ok;
      err = c.adjust_next.ensures.err;
    }
