use Rattle.std.proofs.Common.{◌≡◌, ◌+◌, ◌-◌, ◌++◌, ◌∙◌, ◌∷◌, [], List, ap, arith, drop, length, refl, reverse, subst, sym}
use Rattle.std.specs.Prelude.{slice_get}
use Rattle.std.specs.Vec.{with_item}
use Rattle.ctl_meaning.specs.Finalization.{Spot}
use Rattle.ctl_code.specs.Table.{component_of}
use Rattle.ctl_engine.specs.declared.engine.Engine.{Engine}
use Rattle.ctl_frames.specs.declared.frame.Nulled.TheVariants as NulledOf
use Rattle.ctl_engine.specs.declared.freeing.Fate.TheVariants as FateOf
use Rattle.ctl_engine.specs.Finishing.{AreDoubles}
use Rattle.ctl_places.specs.Freeing.{MayBe, by_component}
use Rattle.ctl_frames.specs.Masters.{first_window}
use Rattle.ctl_engine.specs.Shows.{Kept, kept, with_spots}
use Rattle.ctl_frames.specs.Spots.{first_spot, standing}
use Rattle.ctl_lifetimes.proofs.Assignments.{base_there}
use Rattle.ctl_engine.proofs.Following.{makes_later}
use Rattle.ctl_allocations.proofs.FreedPart.{component_frees, frees_more}
use Rattle.ctl_frames.proofs.Lists.{same_at}
use Rattle.ctl_places.proofs.Located.{part_on_top}
use Rattle.ctl_frames.proofs.Words.{last_replaced, last_there, many_of}
use Rattle.ctl_machine.proofs.freeing.release_by_part.Goals as goal

pub component_of_newest-requires : goal.component_of_newest-requires
component_of_newest-requires g c =
    let b = c.requires.1.0.2 in
    let old = c.args.engine.now in
    let s = g.s.0 in
    let p = part_on_top c.args.code.now old c.requires.1.0.1 b.stack b.fine.1.0 s b.inside b.fine.1.1 in
    let many = many_of old.spots.items (standing s.control (drop 1 s.operands)) (first_spot s.operands) p.spots in
    omega (arith, many)

pub release-requires : goal.release-requires
release-requires g c =
    let code = c.args.code.now in
    let old = c.args.engine.now in
    let place = c.args.release.place in
    let s = g.s.0 in
    let part = g.s.1 in
    let b = c.requires.1.0.2 in
    let released = c.requires.1.1.0 in
    let t = by_component part place s in
    let p = part_on_top code old c.requires.1.0.1 b.stack b.fine.1.0 s b.inside b.fine.1.1 in
    let below = standing s.control (drop 1 s.operands) in
    let goes = c.in_ok-prepare_finalization.ensures.ok in
    let room = c.in_ok-prepare_finalization.ensures in
    let ready = c.prepare_finalization.new.self in
    let copied = c.in_ok-component.ensures in
    let read : copied.0 ≡ first_spot s.operands = same_at copied.0 (first_spot s.operands) (slice_get old.spots.items (length old.spots.items - 1)) copied.1 (last_there old.spots.items below (first_spot s.operands) p.spots) in
    let is : c.in_ok-component.component ≡ part = copied.2 ∙ (ap (λ (x : Spot). component_of x c.args.offset c.args.position) read ∙ sym c.requires.1.1.1.1.1) in
    let same : ready.spots.items ≡ old.spots.items = ap (λ (e : Kept). e.spots) goes.1.kept in
    let spots = with_item ready.spots (c.count_spots-newest.result - 1) c.in_ok-component.component in
    let put = last_replaced ready.spots.items below (first_spot s.operands) c.in_ok-component.component c.count_spots-newest.result (same ∙ p.spots) c.count_spots-newest.ensures.count ∙ ap (λ (x : Spot). below ++ x ∷ []) is in
    let before : Engine = record old { spots = spots } in
    let mid : Engine = record ready { spots = spots } in
    let f = component_frees code old before c.requires.1.0.0 place c.requires.1.0.1 c.args.position part s b (ap (λ (l : List Spot). with_spots (kept old) l) put) in
    let more = frees_more code before mid NulledOf.Part t goes.0 f (ap (λ (e : Kept). with_spots e spots.items) goes.1.kept) in
    let base =
    ap (λ n. n + c.height_at.result) c.window.ensures
    ∙ (ap (λ n. first_window (reverse old.masters.items) + n) c.height_at.ensures ∙ base_there code (with_spots (kept before) (standing s.control (drop 1 s.operands))) (place + 1) f.stack s.control (drop 1 s.operands) s.world f.leads f.inside) in (
      c.requires.0,
      (
        more,
        (
          refl,
          (
            record { may = subst (λ (e : Kept). MayBe code (FateOf.Finalizes c.args.record_type) c.args.release.object e.owned) (sym goes.1.kept) released.may; stored = released.stored },
            (c.requires.1.1.1.0, (base, (record { masters = room.room.masters; control = room.room.control; events = room.room.events; formals = room.room.formals; cells = room.room.cells; number = room.room.number }, (room.frames, (room.spots, subst (λ (x : Spot). AreDoubles c.in_ok-doubles.doubles x) c.whole.ensures c.in_ok-doubles.ensures))))),
          ),
        ),
      ),
    )

pub returns-clause-ok : goal.returns-clause-ok
returns-clause-ok g c =
    let goes = c.in_ok-prepare_finalization.ensures.ok.1 in
    makes_later c.args.code.now c.args.engine.now _ c.release.new.engine _ goes.events goes.picks c.release.ensures
