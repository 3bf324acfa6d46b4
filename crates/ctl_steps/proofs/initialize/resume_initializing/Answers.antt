use Rattle.std.proofs.Common.{sym, subst}
use Rattle.std.proofs.lemmas.Result.{on_ok_weaker}
use Rattle.ctl_meaning.specs.Outcome.{Tried}
use Rattle.ctl_code.specs.Table.{act}
use Rattle.ctl_code.specs.States.{Giving, Handed}
use Rattle.ctl_frames.specs.declared.frame.Ended.{Ended}
use Rattle.ctl_engine.specs.Moves.{Makes}
use Rattle.ctl_engine.specs.Shows.{tried_of}
use Rattle.ctl_lifetimes.proofs.AfterInitialize.{fine_of}
use Rattle.ctl_lifetimes.proofs.GivesUp.{completed_resumes, fails_initializing, gives_up_initializing, is_initializing}
use Rattle.ctl_steps.proofs.initialize.resume_initializing.Goals as goal

pub fail-requires : goal.fail-requires
fail-requires g c =
    let code = c.args.code.now in
    let old = c.args.engine.now in
    let top = c.requires.1 in
    let f = is_initializing code old c.args.record c.args.owner top.0 g.s c.requires.0 top.1 in
    (c.requires.0, (gives_up_initializing code old c.args.record c.args.owner g.s f, c.all_controlled.ensures))

pub returns-in-Raised-clause-ok : goal.returns-in-Raised-clause-ok
returns-in-Raised-clause-ok g c =
    let code = c.args.code.now in
    let old = c.args.engine.now in
    let new = c.fail.new.engine in
    let top = c.requires.1 in
    let f = is_initializing code old c.args.record c.args.owner top.0 g.s c.requires.0 top.1 in
    on_ok_weaker c.fail.result
    (λ made. subst (λ (x : Ended). Makes code old new (act code (Giving (tried_of x)) g.s.control g.s.operands g.s.world 0)) (sym c.in-Raised.is)
    (fails_initializing code old new c.args.record c.args.owner g.s c.in-Raised.exception f made))
    c.fail.ensures.ok

pub complete-requires : goal.complete-requires
complete-requires g c =
    let top = c.requires.1 in
    (is_initializing c.args.code.now c.args.engine.now c.args.record c.args.owner top.0 g.s c.requires.0 top.1).grows

pub returns-clause-ok : goal.returns-clause-ok
returns-clause-ok g c =
    let code = c.args.code.now in
    let old = c.args.engine.now in
    let new = c.complete.new.engine in
    let top = c.requires.1 in
    let f = is_initializing code old c.args.record c.args.owner top.0 g.s c.requires.0 top.1 in
    let fine = fine_of c.args.ended c.in_default.not-Raised in
    on_ok_weaker c.complete.result
    (λ made. subst (λ (t : Tried Handed). Makes code old new (act code (Giving t) g.s.control g.s.operands g.s.world 0)) (sym fine.1)
    (completed_resumes code old new c.args.record c.args.owner g.s fine.0 f made))
    c.complete.ensures.ok
