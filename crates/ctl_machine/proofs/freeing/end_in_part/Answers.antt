use Rattle.std.proofs.Common.{◌≡◌, ◌∙◌, List, ap, arith, length, refl, subst, sym, true}
use Rattle.ctl_meaning.specs.Finalization.{Spot}
use Rattle.ctl_code.specs.States as T
use Rattle.ctl_frames.specs.declared.frame.Frame.TheVariants as FrameOf
use Rattle.ctl_frames.specs.declared.frame.Nulled.TheVariants as NulledOf
use Rattle.ctl_places.specs.Freeing.{calls_back, part_of}
use Rattle.ctl_engine.specs.Shows.{Kept}
use Rattle.ctl_frames.specs.Spots.{standing}
use Rattle.ctl_engine.proofs.Following.{makes_later}
use Rattle.ctl_places.proofs.Freed.{ending_kept, freeing, goes_behind}
use Rattle.ctl_allocations.proofs.FreedPart.{dropped_so, nulled_part, part_ends}
use Rattle.ctl_machine.proofs.freeing.end_in_part.Goals as goal

pub null_component-requires : goal.null_component-requires
null_component-requires g c =
    let code = c.args.code.now in
    let old = c.args.engine.now in
    let n = c.args.object in
    let y = c.args.ending in
    let b = c.requires.1.0 in
    let top = c.requires.1.1.0 in
    let u = freeing code old n NulledOf.Part y.storage y.place top.0 g.s b top.1 in
    let x = nulled_part code old n y.storage y.place top.0 g.s b u in
    let d = c.drop_frame-part in
    let is = d.ensures in
    let fewer = is.fewer in
    let dropped = dropped_so old d.new.self (FrameOf.Freeing n NulledOf.Part y.storage y.place) top.0 (standing u.waiting u.point.operands) x.part d.result is top.1 x.spots in
    let same : d.result ≡ part_of g.s.control = dropped.same ∙ sym (ap (λ (k : List T.Frame). part_of k) x.is) in
    let start : c.offset.result ≡ (part_of g.s.control).offset = c.offset.ensures ∙ ap (λ (s : Spot). s.offset) same in (
      c.requires.0,
      (
        goes_behind code old _ n NulledOf.Part y.storage y.place top.0 g.s b top.1 u dropped.kept,
        (
          (c.object.ensures ∙ ap (λ (s : Spot). s.object) same, omega (arith, start)),
          (
            refl,
            ending_kept code old _ y c.requires.1.1.1 is.others.0 is.others.1 is.others.2 (ap (λ (z : Kept). z.next_master) is.kept) (ap (λ (z : Kept). length z.cells) is.kept) (omega (arith, fewer)) is.capacity
                (λ called. subst (λ (z : Kept). calls_back code y.storage.place z.objects ≡ true) is.kept called),
          ),
        ),
      ),
    )

pub returns : goal.returns
returns g c =
    let code = c.args.code.now in
    let old = c.args.engine.now in
    let n = c.args.object in
    let y = c.args.ending in
    let b = c.requires.1.0 in
    let top = c.requires.1.1.0 in
    let u = freeing code old n NulledOf.Part y.storage y.place top.0 g.s b top.1 in
    let x = nulled_part code old n y.storage y.place top.0 g.s b u in
    let d = c.drop_frame-part in
    part_ends code old c.null_component.new.engine y.ended n y.storage u.point u.waiting g.s x (makes_later code old d.new.self c.null_component.new.engine _ d.ensures.events d.ensures.picks c.null_component.ensures)
