use Rattle.std.proofs.Common.{◌≡◌, ◌∷◌, ◌∙◌, ◌++◌, List, ap, refl, reverse, sym, []}
use Rattle.std.proofs.lemmas.List.{reverse-append}
use Rattle.ctl_meaning.specs.Finalization.{Spot}
use Rattle.ctl_frames.specs.declared.frame.Frame.{Frame}
use Rattle.ctl_frames.specs.declared.frame.Frame.TheVariants as FrameOf
use Rattle.ctl_frames.specs.declared.frame.Left.{Left}
use Rattle.ctl_engine.specs.Shows.{kept}
use Rattle.ctl_lifetimes.proofs.PartBegun.{begins_makes}
use Rattle.ctl_lifetimes.proofs.filling.begin_part.Goals as goal

pub returns-clause-begins : goal.returns-clause-begins
returns-clause-begins g c =
    let old = c.args.engine.now in
    let those : Left = record { first = 0; last = c.count_begun.result } in
    let frame = FrameOf.Filling c.args.record c.args.owner those those in
    let control : reverse c.push_reserved-2.new.self.items ≡ frame ∷ reverse old.control.items = ap (λ (l : List Frame). reverse l) c.push_reserved-2.ensures.items ∙ reverse-append old.control.items (frame ∷ []) in
    begins_makes c.args.code.now old _ g.t c.args.record c.args.owner those c.push_reserved.new.self.items c.requires.0 c.requires.1.0 refl c.count_begun.ensures
    (c.push_reserved.ensures.items ∙ ap (λ (s : Spot). old.spots.items ++ s ∷ []) (sym c.requires.1.1.0))
    (ap (λ (l : List Frame). record (kept old) { control = l; spots = c.push_reserved.new.self.items }) control)
    refl refl refl c.requires.1.1.1.1.1
