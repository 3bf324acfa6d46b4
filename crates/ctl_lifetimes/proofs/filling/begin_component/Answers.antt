use Rattle.std.proofs.Common.{◌≡◌, ◌∙◌, ◌∷◌, List, ap, arith, drop, refl, reverse, subst}
use Rattle.ctl_meaning.specs.Finalization.{Spot}
use Rattle.ctl_code.specs.States.{Move}
use Rattle.ctl_code.specs.Table.{begin_part, component_of}
use Rattle.ctl_frames.specs.declared.frame.Frame.{Frame}
use Rattle.ctl_frames.specs.declared.frame.Frame.TheVariants as FrameOf
use Rattle.ctl_engine.specs.declared.engine.Engine.{Engine}
use Rattle.ctl_engine.specs.Moves.{Makes}
use Rattle.ctl_engine.specs.Shows.{kept}
use Rattle.ctl_frames.specs.Spots.{spots_in}
use Rattle.ctl_lifetimes.proofs.Creations.{child_awaits, grown_in, has_frames, has_spots, with_next}
use Rattle.ctl_engine.proofs.Following.{makes_later}
use Rattle.ctl_frames.proofs.Words.{newest_read}
use Rattle.ctl_lifetimes.proofs.filling.begin_component.Goals as goal

pub index-requires : goal.index-requires
index-requires g c =
    let some = has_spots c.args.code.now c.args.engine.now c.args.creation.record_type c.args.creation.owner g.t.0 c.requires.0 in
    let count = c.count_spots-newest.ensures.count in
    omega (arith, some, count)

pub replace_top-requires : goal.replace_top-requires
replace_top-requires g c =
    let some = has_frames c.args.code.now c.args.engine.now c.args.creation.record_type c.args.creation.owner g.t.0 c.requires.0 in
    let long = c.args.engine.now.control.ok.0 in
    let same = c.in_ok-reserve.ensures.len in
    omega (arith, some, long, same)

pub begin_part-requires : goal.begin_part-requires
begin_part-requires g c =
    let code = c.args.code.now in
    let old = c.args.engine.now in
    let x = c.args.creation in
    let frame = FrameOf.Filling x.record_type x.owner c.args.rest c.args.left in
    let mid : Engine = record old { control = c.replace_top.new.control; spots = c.reserve-2.new.vector } in
    let is : kept mid ≡ with_next frame (kept old) =
    ap (λ (l : List Frame). record (kept old) { control = l; spots = c.reserve-2.new.vector.items }) (c.replace_top.ensures.items ∙ ap (λ (l : List Frame). frame ∷ drop 1 (reverse l)) c.in_ok-reserve.ensures.items)
    ∙ ap (λ (l : List Spot). record (with_next frame (kept old)) { spots = l }) c.in_ok-reserve-2.ensures.items in
    let room = c.in_ok-reserve.ensures.ok in
    let long = c.replace_top.ensures.len in
    let wide = c.replace_top.ensures.capacity in
    let spots = c.in_ok-reserve-2.ensures.ok in (
      child_awaits code old mid x.record_type x.owner c.args.record c.select.new.self g.t.0 c.args.rest c.args.left g.t.2 g.t.1 c.requires.0 c.requires.1.1.0 c.requires.1.0 is c.requires.1.1.1,
      (record { type_is = refl; owner_is = c.requires.0.is_of.owner_is }, (refl, (omega (arith, room, long, wide), (omega (arith, spots), tt)))),
    )

pub returns-clause-ok : goal.returns-clause-ok
returns-clause-ok g c =
    let code = c.args.code.now in
    let old = c.args.engine.now in
    let count = c.count_spots-newest in
    let mid : Engine = record old { control = c.replace_top.new.control; spots = c.reserve-2.new.vector } in
    let read = newest_read old.spots.items (spots_in g.t.0.control) g.t.0.new.spot c.index.result.now count.result c.requires.0.spots count.ensures.count c.index.ensures in
    let spot : c.select.new.self ≡ component_of g.t.0.new.spot c.args.component.now.offset c.args.component.now.position = c.in_ok-select.ensures.ok ∙ ap (λ (s : Spot). component_of s c.args.component.now.offset c.args.component.now.position) (c.in_ok-spot.ensures ∙ read) in
    let begun : Spot → Move = λ s. let t = grown_in s c.args.record g.t.2 g.t.1 g.t.0 in begin_part code t.new t.control t.world in
    makes_later code old mid c.begin_part.new.engine _ refl refl (subst (λ (s : Spot). Makes code mid c.begin_part.new.engine (begun s)) spot c.begin_part.ensures.begins)
