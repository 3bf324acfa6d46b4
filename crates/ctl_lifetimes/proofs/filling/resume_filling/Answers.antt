use Rattle.std.proofs.Common.{arith, sym, subst}
use Rattle.std.proofs.lemmas.Result.{on_ok_weaker}
use Rattle.ctl_meaning.specs.Outcome.{Tried}
use Rattle.ctl_code.specs.States.{Handed}
use Rattle.ctl_frames.specs.declared.frame.Ended.{Ended}
use Rattle.ctl_engine.specs.Moves.{Resumes}
use Rattle.ctl_engine.specs.Shows.{tried_of}
use Rattle.ctl_lifetimes.proofs.AfterInitialize.{fine_of}
use Rattle.ctl_lifetimes.proofs.Filled.{initialized_resumes, is_filling}
use Rattle.ctl_lifetimes.proofs.GivesUp.{fails_filling, gives_up_filling}
use Rattle.ctl_lifetimes.proofs.filling.resume_filling.Goals as goal

pub complete_of-complete-requires : goal.complete_of-complete-requires
complete_of-complete-requires g c =
    let top = c.requires.1.1.0 in
    (c.requires.0, (is_filling c.args.code.now c.args.engine.now c.args.record c.args.owner c.args.left c.args.incomplete top.0 g.s c.requires.1.0 top.1).were)

pub fail-requires : goal.fail-requires
fail-requires g c =
    let code = c.args.code.now in
    let old = c.args.engine.now in
    let top = c.requires.1.1.0 in
    let f = is_filling code old c.args.record c.args.owner c.args.left c.args.incomplete top.0 g.s c.requires.1.0 top.1 in
    (c.requires.1.0, (gives_up_filling code old c.args.record c.args.owner c.args.left c.args.incomplete g.s f, c.complete_of-complete.ensures))

pub returns-in-Raised-clause-ok : goal.returns-in-Raised-clause-ok
returns-in-Raised-clause-ok g c =
    let code = c.args.code.now in
    let old = c.args.engine.now in
    let new = c.fail.new.engine in
    let top = c.requires.1.1.0 in
    let f = is_filling code old c.args.record c.args.owner c.args.left c.args.incomplete top.0 g.s c.requires.1.0 top.1 in
    on_ok_weaker c.fail.result
    (λ made. subst (λ (x : Ended). Resumes code old new c.args.order (tried_of x) g.s) (sym c.in-Raised.is)
    (fails_filling code old new c.args.record c.args.owner c.args.left c.args.incomplete g.s c.args.order c.in-Raised.exception f made))
    c.fail.ensures.ok

pub initialize-requires : goal.initialize-requires
initialize-requires g c =
    let top = c.requires.1.1.0 in
    (c.requires.0, ((is_filling c.args.code.now c.args.engine.now c.args.record c.args.owner c.args.left c.args.incomplete top.0 g.s c.requires.1.0 top.1).grows, c.requires.1.1.1))

pub fill-requires : goal.fill-requires
fill-requires g c =
    let top = c.requires.1.1.0 in
    let f = is_filling c.args.code.now c.args.engine.now c.args.record c.args.owner c.args.left c.args.incomplete top.0 g.s c.requires.1.0 top.1 in
    let rising = f.are.rising in
    let differs = c.if-left.false in
    (c.requires.0, (c.requires.1.0, ((c.args.incomplete, top.0, top.1), omega (arith, rising, differs))))

pub returns-then-left : goal.returns-then-left
returns-then-left g c =
    let code = c.args.code.now in
    let old = c.args.engine.now in
    let new = c.initialize.new.engine in
    let top = c.requires.1.1.0 in
    let f = is_filling code old c.args.record c.args.owner c.args.left c.args.incomplete top.0 g.s c.requires.1.0 top.1 in
    let fine = fine_of c.args.ended c.in_default.not-Raised in
    record {
      ok = on_ok_weaker c.initialize.result
          (λ made. subst (λ (t : Tried Handed). Resumes code old new c.args.order t g.s) (sym fine.1)
          (initialized_resumes code old new c.args.record c.args.owner c.args.left c.args.incomplete g.s c.args.order fine.0 f c.if-left.true made))
          c.initialize.ensures.ok;
      err = c.initialize.ensures.err;
    }

pub returns-clause-ok : goal.returns-clause-ok
returns-clause-ok g c =
    let code = c.args.code.now in
    let old = c.args.engine.now in
    let new = c.fill.new.engine in
    let fine = fine_of c.args.ended c.in_default.not-Raised in
    on_ok_weaker c.fill.result (λ made. subst (λ (t : Tried Handed). Resumes code old new c.args.order t g.s) (sym fine.1) (made fine.0)) c.fill.ensures.ok
