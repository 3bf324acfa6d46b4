use Rattle.std.proofs.Common.{◌∙◌, ap, refl}
use Rattle.std.specs.Prelude.{Bool}
use Rattle.ctl_code.specs.Table.{failed_with}
use Rattle.ctl_engine.specs.Shows.{tried_of}
use Rattle.ctl_lifetimes.proofs.GivingUp.{fails_further}
use Rattle.ctl_lifetimes.proofs.failing.resume_failing.Goals as goal

pub returns : goal.returns
returns g c =
    let d = c.drop_frame-spot in
    let code = c.args.code.now in
    fails_further code c.args.engine.now d.new.self _ (tried_of c.args.ended) c.args.exception c.failed_with.result g.s c.requires.1.0 d.result c.requires.0 c.requires.1.1 d.ensures (λ k ops w h. c.end_whole.ensures.holds code k ops w h) c.end_whole.ensures.kept refl
    (c.failed_with.ensures ∙ ap (λ (b : Bool). failed_with c.args.exception b) c.says_failed.ensures)
    (ap (λ v. v.items) c.end_whole.ensures.events) (ap (λ v. v.items) c.end_whole.ensures.picks)
