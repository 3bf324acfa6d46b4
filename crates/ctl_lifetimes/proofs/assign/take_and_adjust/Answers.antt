use Rattle.std.proofs.Common.{◌≡◌, ◌-◌, arith, subst}
use Rattle.std.specs.Prelude.{slice_get}
use Rattle.ctl_meaning.specs.Finalization.{Spot}
use Rattle.ctl_engine.specs.Finishing.{AreDoubles}
use Rattle.ctl_frames.specs.Spots.{standing}
use Rattle.ctl_frames.proofs.Lists.{same_at}
use Rattle.ctl_frames.proofs.Words.{many_of, newest_there}
use Rattle.ctl_lifetimes.proofs.Targets.{taken_and_adjusted}
use Rattle.ctl_lifetimes.proofs.assign.take_and_adjust.Goals as goal

pub double_part-requires : goal.double_part-requires
double_part-requires g c =
    let t = g.t.0 in
    let many = many_of c.args.engine.now.spots.items (standing t.control t.point.operands) t.spot c.requires.1.0.spots in
    let count = c.count_spots.ensures.count in
    omega (arith, many, count)

pub adjust_target-requires : goal.adjust_target-requires
adjust_target-requires g c =
    let old = c.args.engine.now in
    let t = g.t.0 in
    let there = c.requires.1.0.spots in
    let copied = c.in_ok-doubles.ensures in
    let same : copied.0 ≡ t.spot = same_at copied.0 t.spot (slice_get old.spots.items (c.count_spots.result - 1)) copied.1 (newest_there old.spots.items (standing t.control t.point.operands) t.spot c.count_spots.result there c.count_spots.ensures.count) in
    let took = c.in_ok-is_there.ensures.taken c.if-is_there.true in
    (c.requires.0, (took.assigns, (took.room, subst (λ (z : Spot). AreDoubles c.in_ok-doubles.doubles z) same copied.2)))

pub returns-then-is_there-clause-ok : goal.returns-then-is_there-clause-ok
returns-then-is_there-clause-ok g c =
    let took = c.in_ok-is_there.ensures.taken c.if-is_there.true in
    taken_and_adjusted c.args.code.now c.args.engine.now c.take_over.new.engine c.adjust_target.new.engine _ g.t.1 g.t.0 took c.adjust_target.ensures
