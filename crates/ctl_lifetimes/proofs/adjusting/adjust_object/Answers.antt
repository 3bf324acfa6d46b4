use Rattle.std.proofs.Common.{◌≡◌, ◌∷◌, ◌++◌, ◌∙◌, List, [], ap, refl, reverse, Some}
use Rattle.std.proofs.lemmas.List.{reverse-append}
use Rattle.ctl_frames.specs.declared.frame.Frame.{Frame}
use Rattle.ctl_frames.specs.declared.frame.Frame.TheVariants as FrameOf
use Rattle.ctl_engine.specs.Finishing.{with_frames}
use Rattle.ctl_engine.specs.Shows.{kept}
use Rattle.ctl_meaning.specs.Finalization.{Spot}
use Rattle.ctl_lifetimes.proofs.CopyBegun.{copy_begins}
use Rattle.ctl_lifetimes.proofs.adjusting.adjust_object.Goals as goal

pub returns : goal.returns
returns g c =
    let code = c.args.code.now in
    let old = c.args.engine.now in
    let copy = c.args.copy in
    let adjusting = FrameOf.Adjusting (Some c.args.owner) c.args.record c.controlled_left.result in
    let control : reverse c.push_reserved-2.new.self.items ≡ adjusting ∷ copy ∷ reverse old.control.items =
    ap (λ (l : List Frame). reverse l) c.push_reserved-2.ensures.items
    ∙ (reverse-append c.push_reserved.new.self.items (adjusting ∷ [])
    ∙ (ap (λ (l : List Frame). adjusting ∷ reverse l) c.push_reserved.ensures.items ∙ ap (λ (l : List Frame). adjusting ∷ l) (reverse-append old.control.items (copy ∷ [])))) in
    let spots = c.push_reserved-3.ensures.items ∙ ap (λ (s : Spot). old.spots.items ++ s ∷ []) c.whole-whole.ensures in
    copy_begins code old _ copy g.t.0 c.args.record c.args.object c.args.owner c.controlled_left.result g.t.1 c.requires.0 c.requires.1.0 c.requires.1.1.0 c.controlled_left.ensures
    (ap (λ (l : List Frame). with_frames l c.push_reserved-3.new.self.items (kept old)) control ∙ ap (λ (l : List Spot). with_frames (adjusting ∷ copy ∷ reverse old.control.items) l (kept old)) spots)
    refl refl refl
