use Rattle.std.proofs.Common.{◌≡◌, ◌∷◌, List, refl, ap, ◌∙◌, subst, reverse}
use Rattle.std.specs.Prelude.{if◌then◌else◌}
use Rattle.ctl_meaning.specs.Changes.{end_finalization}
use Rattle.ctl_meaning.specs.Finalization.{Spot, is_whole}
use Rattle.ctl_frames.specs.declared.frame.Frame.{Frame}
use Rattle.ctl_frames.specs.declared.frame.Frame.TheVariants as FrameOf
use Rattle.ctl_engine.specs.Shows.{Holds, Kept, kept}
use Rattle.ctl_lifetimes.proofs.AfterInitialize.{rest_is}
use Rattle.ctl_lifetimes.proofs.CopyUndone.{undoing_ends}
use Rattle.ctl_lifetimes.proofs.creating.resume_undoing.Goals as goal

pub returns : goal.returns
returns g c = λ ended.
    let code = c.args.code.now in
    let old = c.args.engine.now in
    let mid = c.end_whole.new.self in
    let b = c.requires.0 in
    let top = c.requires.1 in
    let object = c.args.object in
    let undoing = FrameOf.Undoing object c.args.first in
    let control : reverse mid.control.items ≡ undoing ∷ top.0 = ap (λ v. reverse v.items) c.end_whole.ensures.stacks.0 ∙ top.1 in
    let rest : reverse c.take_last.new.self.items ≡ top.0 = rest_is mid.control.items c.take_last.new.self.items c.take_last.result undoing top.0 c.take_last.ensures.items control in
    undoing_ends code old mid _ object c.args.first top.0 g.s ended b top.1 control
    (λ k ops w h. subst (λ (z : Spot). Holds code (kept mid) k ops (if is_whole z then end_finalization z.object w else w)) c.whole-whole.ensures (c.end_whole.ensures.holds code k ops w h))
    (ap (λ (y : Kept). y.spots) c.end_whole.ensures.kept) (ap (λ v. v.items) c.end_whole.ensures.events) (ap (λ v. v.items) c.end_whole.ensures.picks)
    (ap (λ (l : List Frame). record (kept mid) { control = l; noted = c.truncate.new.self.items }) rest ∙ ap (λ (l : List Spot). record (kept mid) { control = top.0; noted = l }) c.truncate.ensures.items)
    refl refl refl
