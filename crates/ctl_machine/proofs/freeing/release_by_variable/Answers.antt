use Rattle.std.proofs.Common.{◌+◌, ◌∙◌, ap, refl, reverse, subst, sym}
use Rattle.ctl_meaning.specs.Finalization.{Spot}
use Rattle.ctl_frames.specs.declared.frame.Nulled.TheVariants as NulledOf
use Rattle.ctl_engine.specs.declared.freeing.Fate.TheVariants as FateOf
use Rattle.ctl_engine.specs.Finishing.{AreDoubles}
use Rattle.ctl_places.specs.Freeing.{MayBe, by_variable}
use Rattle.ctl_frames.specs.Masters.{first_window}
use Rattle.ctl_engine.specs.Shows.{Kept, kept, with_spots}
use Rattle.ctl_frames.specs.Spots.{standing}
use Rattle.ctl_lifetimes.proofs.Assignments.{base_there}
use Rattle.ctl_engine.proofs.Following.{makes_later}
use Rattle.ctl_allocations.proofs.FreedPart.{frees_more, variable_frees}
use Rattle.ctl_machine.proofs.freeing.release_by_variable.Goals as goal

pub release-requires : goal.release-requires
release-requires g c =
    let code = c.args.code.now in
    let old = c.args.engine.now in
    let new = c.prepare_finalization.new.self in
    let x = c.args.release in
    let s = g.s in
    let b = c.requires.1.0.1 in
    let is = c.requires.1.1.0 in
    let goes = c.in_ok-prepare_finalization.ensures.ok in
    let room = c.in_ok-prepare_finalization.ensures in
    let f = variable_frees code old c.requires.1.0.0 c.args.out c.args.slot x.place s b in
    let base =
    ap (λ n. n + c.height_at.result) c.window.ensures
    ∙ (ap (λ n. first_window (reverse old.masters.items) + n) c.height_at.ensures ∙ base_there code (with_spots (kept old) (standing s.control s.operands)) (x.place + 1) f.stack s.control s.operands s.world f.leads f.inside) in (
      c.requires.0,
      (
        frees_more code old new (NulledOf.Variable c.args.out c.args.slot) (by_variable c.args.out c.args.slot x.place s) goes.0 f goes.1.kept,
        (
          refl,
          (
            record { may = subst (λ (e : Kept). MayBe code (FateOf.Finalizes c.args.record_type) x.object e.owned) (sym goes.1.kept) is.may; stored = is.stored },
            (c.requires.1.1.1.0, (base, (room.room, (room.frames, (room.spots, subst (λ (y : Spot). AreDoubles c.in_ok-doubles.doubles y) c.whole.ensures c.in_ok-doubles.ensures))))),
          ),
        ),
      ),
    )

pub returns-clause-ok : goal.returns-clause-ok
returns-clause-ok g c =
    let goes = c.in_ok-prepare_finalization.ensures.ok.1 in
    makes_later c.args.code.now c.args.engine.now c.prepare_finalization.new.self c.release.new.engine _ goes.events goes.picks c.release.ensures
