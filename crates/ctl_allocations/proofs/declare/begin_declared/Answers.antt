use Rattle.std.proofs.Common.{◌≡◌, ◌∷◌, ◌∙◌, List, [], ap, arith, refl, reverse, sym}
use Rattle.std.proofs.lemmas.List.{reverse-append}
use Rattle.ctl_tree.specs.declared.event.Owner.TheVariants as OwnerOf
use Rattle.ctl_engine.specs.declared.engine.Engine.{Engine}
use Rattle.ctl_frames.specs.declared.frame.Frame.{Frame}
use Rattle.ctl_frames.specs.declared.frame.Frame.TheVariants as FrameOf
use Rattle.ctl_engine.specs.Shows.{kept}
use Rattle.ctl_frames.specs.Spots.{whole_spot}
use Rattle.ctl_lifetimes.proofs.MadeAtOnce.{begins_by_parts, declared_is_newest, declared_waits, lives_at_once}
use Rattle.ctl_engine.proofs.Stages.{with_frame}
use Rattle.ctl_allocations.proofs.declare.begin_declared.Goals as goal

pub become_layer-requires : goal.become_layer-requires
become_layer-requires g c = declared_is_newest c.args.code.now c.args.engine.now c.args.record c.args.place g.t.1 c.requires.1.0

pub returns-then-is_made_at_once : goal.returns-then-is_made_at_once
returns-then-is_made_at_once g c =
    lives_at_once c.args.declared c.args.code.now c.args.engine.now c.become_layer.new.engine g.t.0 c.args.record c.args.place (OwnerOf.Master c.args.master) g.t.1 c.requires.0 c.requires.1.0 (sym c.is_made_at_once.ensures ∙ c.if-is_made_at_once.true) c.become_layer.ensures

pub begin_part-requires : goal.begin_part-requires
begin_part-requires g c =
    let old = c.args.engine.now in
    let mid : Engine = record old { control = c.push_reserved.new.self } in
    let declared = c.requires.1.0 in
    let frame = FrameOf.Creating c.args.declared c.args.place in
    let control : reverse c.push_reserved.new.self.items ≡ frame ∷ reverse old.control.items = ap (λ (l : List Frame). reverse l) c.push_reserved.ensures.items ∙ reverse-append old.control.items (frame ∷ []) in
    let is : kept mid ≡ with_frame frame (kept old) = ap (λ (l : List Frame). record (kept old) { control = l }) control in
    let room = c.requires.1.1.0 in
    let longer = c.push_reserved.ensures.len in
    let wide = c.push_reserved.ensures.capacity in (
      declared_waits c.args.declared c.args.code.now old mid g.t.0 c.args.record c.args.place (OwnerOf.Master c.args.master) g.t.1 c.requires.0 declared is,
      (record { type_is = refl; owner_is = refl }, (ap whole_spot (sym declared.number) ∙ sym c.whole-spot.ensures, (omega (arith, room, longer, wide), (c.requires.1.1.1, tt)))),
    )

pub returns : goal.returns
returns g c =
    let old = c.args.engine.now in
    let mid : Engine = record old { control = c.push_reserved.new.self } in
    begins_by_parts c.args.code.now old mid c.begin_part.new.engine g.t.0 c.args.record (OwnerOf.Master c.args.master) g.t.1 (sym c.is_made_at_once.ensures ∙ c.if-is_made_at_once.false) refl refl c.begin_part.ensures.begins
