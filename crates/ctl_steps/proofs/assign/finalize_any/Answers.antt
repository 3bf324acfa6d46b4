use Rattle.std.proofs.Common.{◌≡◌, ◌-◌, Some, subst}
use Rattle.std.specs.Prelude.{slice_get}
use Rattle.ctl_meaning.specs.Finalization.{Spot}
use Rattle.ctl_engine.specs.Finishing.{AreDoubles}
use Rattle.ctl_engine.proofs.Following.{makes_later}
use Rattle.ctl_frames.specs.Spots.{standing}
use Rattle.ctl_frames.proofs.Lists.{same_at}
use Rattle.ctl_frames.proofs.Words.{next_there}
use Rattle.ctl_lifetimes.proofs.Targets.{finishes_over}
use Rattle.ctl_steps.proofs.assign.finalize_any.Goals as goal

pub finalize_part-requires : goal.finalize_part-requires
finalize_part-requires g c =
    let old = c.args.engine.now in
    let t = g.t.0 in
    let r = c.requires.1.0 in
    let copied = c.in_ok-doubles.ensures in
    let there = next_there old.spots.items (standing t.control t.point.operands) t.spot r.from c.count_spots.result r.spots c.count_spots.ensures.count in
    let same : copied.0 ≡ t.spot = same_at copied.0 t.spot (slice_get old.spots.items (c.count_spots.result - 2)) copied.1 there in
    let aside = c.in_ok-begin_assignment.ensures in
    (c.requires.0, (finishes_over c.args.code.now c.begin_assignment.new.engine c.args.record c.args.place (Some g.t.1) t aside.pending, (c.requires.1.1.1.0, (aside.room, subst (λ (s : Spot). AreDoubles c.in_ok-doubles.doubles s) same copied.2))))

pub returns-clause-ok : goal.returns-clause-ok
returns-clause-ok g c =
    let aside = c.in_ok-begin_assignment.ensures in
    makes_later c.args.code.now c.args.engine.now c.begin_assignment.new.engine c.finalize_part.new.engine _ aside.events aside.picks c.finalize_part.ensures
