use Rattle.std.proofs.Common.{◌≡◌, ◌∷◌, ◌∙◌, [], List, ap, arith, refl, reverse, subst, sym}
use Rattle.std.proofs.lemmas.List.{reverse-append}
use Rattle.ctl_program.specs.declared.types.Ty.{Ty}
use Rattle.ctl_engine.specs.declared.engine.Engine.{Engine}
use Rattle.ctl_frames.specs.declared.frame.Frame.{Frame}
use Rattle.ctl_frames.specs.declared.frame.Frame.TheVariants as FrameOf
use Rattle.ctl_places.specs.Granting.{IsAdded}
use Rattle.ctl_engine.specs.Shows.{kept}
use Rattle.ctl_frames.specs.Spots.{whole_spot}
use Rattle.ctl_allocations.proofs.NewMember.{added_awaits, added_is, begins_in_set, is_begun, joins_at_once}
use Rattle.ctl_engine.proofs.Stages.{with_frame}
use Rattle.ctl_allocations.proofs.allocating.begin_member.Goals as goal

pub end_allocation-requires : goal.end_allocation-requires
end_allocation-requires g c = (c.requires.0, added_is c.args.code.now c.args.engine.now c.args.set c.args.of c.args.place g.t.0 g.t.1 c.requires.1.0 c.requires.1.1.0)

pub returns-in_default : goal.returns-in_default
returns-in_default g c =
    record { makes = joins_at_once c.args.code.now c.args.engine.now c.end_allocation.new.engine c.args.set c.args.of c.args.place g.t.0 g.t.1 c.requires.1.0 c.requires.1.1.0 (sym c.in_default.ensures) c.end_allocation.ensures }

pub begin_part-requires : goal.begin_part-requires
begin_part-requires g c =
    let code = c.args.code.now in
    let added = c.args.engine.now in
    let begun = is_begun code c.args.of c.in-Some.record (sym c.in-Some.ensures) in
    let a = subst (λ (ty : Ty). IsAdded code added c.args.set ty c.args.place g.t.0) begun.0 c.requires.1.0 in
    let mid : Engine = record added { control = c.push_reserved.new.self } in
    let frame = FrameOf.Allocating added.numbered.objects c.args.place in
    let control : reverse c.push_reserved.new.self.items ≡ frame ∷ reverse added.control.items =
    ap (λ (l : List Frame). reverse l) c.push_reserved.ensures.items ∙ reverse-append added.control.items (frame ∷ []) in
    let is : kept mid ≡ with_frame frame (kept added) = ap (λ (l : List Frame). record (kept added) { control = l }) control in
    let waits = added_awaits code added mid c.args.set c.in-Some.record c.args.place g.t.0 a is in
    let room = c.requires.1.1.1.0 in
    let longer = c.push_reserved.ensures.len in
    let wide = c.push_reserved.ensures.capacity in
    let some = c.requires.1.1.1.1 in
    (waits, (record { type_is = refl; owner_is = refl }, (ap whole_spot a.number ∙ sym c.whole-whole.ensures, (omega (arith, room, longer, wide), (omega (arith, some), tt)))))

pub returns : goal.returns
returns g c =
    let added = c.args.engine.now in
    let mid : Engine = record added { control = c.push_reserved.new.self } in
    record { makes = begins_in_set c.args.code.now added mid c.begin_part.new.engine c.args.set c.in-Some.record c.args.of g.t.0 (sym c.in-Some.ensures) refl refl c.begin_part.ensures.begins }
