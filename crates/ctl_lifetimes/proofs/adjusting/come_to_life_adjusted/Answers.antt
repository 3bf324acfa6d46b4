use Rattle.std.proofs.Common.{◌≡◌, ◌∙◌, ◌<◌, ap, arith, drop, subst, sym, List, Some}
use Rattle.std.specs.Prelude.{vec_capacity, vec_len}
use Rattle.ctl_meaning.specs.Finalization.{Spot}
use Rattle.ctl_code.specs.Table.{part_at}
use Rattle.ctl_engine.specs.declared.engine.Engine.{Engine}
use Rattle.ctl_frames.specs.declared.frame.Frame.TheVariants.{AdjustingOwn}
use Rattle.ctl_engine.specs.Shows.{kept}
use Rattle.ctl_frames.specs.Spots.{spots_in}
use Rattle.ctl_lifetimes.proofs.AfterAdjust.{after_own, own_drops, own_some, own_spots, resuming_same}
use Rattle.ctl_lifetimes.proofs.AfterFinalize.{frame_there, part_in}
use Rattle.ctl_lifetimes.proofs.NextAdjusted.{note_room}
use Rattle.ctl_frames.proofs.Words.{newest_read}
use Rattle.ctl_lifetimes.proofs.adjusting.come_to_life_adjusted.Goals as goal

pub overflow_sub-newest : goal.overflow_sub-newest
overflow_sub-newest g c =
    let top = c.requires.1.0 in
    let some = own_some c.args.code.now c.args.engine.now g.s (Some c.args.owner) c.args.record c.args.failed top.0 c.requires.0 top.1 in
    let count = c.count_spots-newest.ensures.count in
    omega (arith, some, count)

pub index-requires : goal.index-requires
index-requires g c =
    let old = c.args.engine.now in
    let top = c.requires.1.0 in
    let some = own_some c.args.code.now old g.s (Some c.args.owner) c.args.record c.args.failed top.0 c.requires.0 top.1 in
    let count = c.count_spots-newest.ensures.count in
    let long = old.spots.ok.0 in
    omega (arith, some, count, long)

pub drop_frame-spot-requires : goal.drop_frame-spot-requires
drop_frame-spot-requires g c =
    let old = c.args.engine.now in
    let top = c.requires.1.0 in
    let frames = frame_there old.control.items (AdjustingOwn (Some c.args.owner) c.args.record c.args.failed) top.0 top.1 in
    let spots = own_some c.args.code.now old g.s (Some c.args.owner) c.args.record c.args.failed top.0 c.requires.0 top.1 in
    let many = old.control.ok.0 in
    let long = old.spots.ok.0 in
    record { control = omega (arith, frames, many); spots = omega (arith, spots, long) }

pub adjusted-requires : goal.adjusted-requires
adjusted-requires g c =
    let code = c.args.code.now in
    let old = c.args.engine.now in
    let b = c.requires.0 in
    let top = c.requires.1.0 in
    let d = c.drop_frame-spot in
    let ready : Engine = record old { events = c.reserve.new.vector; noted = c.reserve-2.new.vector } in
    let same : kept ready ≡ kept old = ap (λ (l : List Spot). record (kept old) { noted = l }) c.in_ok-reserve-2.ensures.items in
    let drops = own_drops code ready d.new.self g.s (Some c.args.owner) c.args.record c.args.failed top.0 d.result (resuming_same code old ready g.s same b) top.1 d.ensures in
    let count = c.count_spots-newest in
    let read = newest_read old.spots.items (spots_in (drop 1 g.s.control)) (part_in g.s.control) c.index.result.now count.result (own_spots code old g.s (Some c.args.owner) c.args.record c.args.failed top.0 b top.1) count.ensures.count c.index.ensures in
    let events : vec_len c.reserve.new.vector < vec_capacity c.reserve.new.vector = omega (arith, c.in_ok-reserve.ensures.ok) in
    let noted : vec_len c.reserve-2.new.vector < vec_capacity c.reserve-2.new.vector = omega (arith, c.in_ok-reserve-2.ensures.ok) in (
      drops.0,
      (
        drops.2,
        (
          note_room d.new.self (Some c.args.owner) (subst (λ v. vec_len v < vec_capacity v) (sym d.ensures.notes) noted),
          (
            subst (λ v. vec_len v < vec_capacity v) (sym d.ensures.others.2) events,
            (drops.1, c.in_ok-part.ensures ∙ ap (λ (s : Spot). part_at s) read),
          ),
        ),
      ),
    )

pub returns-clause-ok : goal.returns-clause-ok
returns-clause-ok g c =
    let d = c.drop_frame-spot in
    after_own c.args.code.now c.args.engine.now d.new.self c.adjusted.new.engine c.args.ended (Some c.args.owner) c.args.record c.args.failed g.s c.requires.1.0.0 c.requires.0 c.requires.1.0.1 c.requires.1.1
    (d.ensures.events ∙ c.in_ok-reserve.ensures.items) d.ensures.picks c.adjusted.ensures
