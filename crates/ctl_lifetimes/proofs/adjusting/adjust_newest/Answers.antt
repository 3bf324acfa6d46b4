use Rattle.std.proofs.Common.{◌∷◌, ◌∙◌, ◌<◌, List, [], ap, arith, subst, sym}
use Rattle.std.specs.Prelude.{vec_capacity, vec_len}
use Rattle.ctl_meaning.specs.Finalization.{Spot}
use Rattle.ctl_code.specs.States as T
use Rattle.ctl_code.specs.Table.{part_at}
use Rattle.ctl_engine.specs.Shows.{kept}
use Rattle.ctl_frames.specs.Spots.{spots_in}
use Rattle.ctl_engine.proofs.Following.{makes_later}
use Rattle.ctl_lifetimes.proofs.NextAdjusted.{after_room, newest_dropped, note_room}
use Rattle.ctl_lifetimes.proofs.NextWindow.{end_is, tall_within}
use Rattle.ctl_frames.proofs.Words.{newest_read}
use Rattle.ctl_lifetimes.proofs.adjusting.adjust_newest.Goals as goal

pub next_window-base-requires : goal.next_window-base-requires
next_window-base-requires g c =
    let code = c.args.code.now in
    let old = c.args.engine.now in
    let f = c.requires.1.0.1 in
    let k : List T.Frame = T.Adjusting c.args.creation g.t.spot c.args.record [] ∷ g.t.control in
    let end = end_is code (kept old) k [] g.t.world f.holds f.waits f.sized in
    let within = tall_within code (kept old) k [] g.t.world f.holds in
    let few = old.cells.ok.0 in
    omega (arith, end, within, few)

pub adjust_own-requires : goal.adjust_own-requires
adjust_own-requires g c =
    let code = c.args.code.now in
    let old = c.args.engine.now in
    let t = g.t in
    let those = c.requires.1.0.0 in
    let f = c.requires.1.0.1 in
    let k : List T.Frame = T.Adjusting c.args.creation t.spot c.args.record [] ∷ t.control in
    let mid = c.prepare_finalization.new.self in
    let goes = c.in_ok-prepare_finalization.ensures.ok in
    let room = c.in_ok-prepare_finalization.ensures.room in
    let more = c.in_ok-prepare_finalization.ensures.control in
    let d = c.drop_frame-spot in
    let x = newest_dropped code old mid d.new.self c.args.creation c.args.record those t [] goes.0 d.result f goes.1.kept d.ensures in
    let notes = subst (λ v. vec_len v < vec_capacity v) (sym d.ensures.notes) c.in_ok-prepare_finalization.ensures.notes in
    let count = c.count_spots-newest in
    let read = newest_read old.spots.items (spots_in t.control) t.spot c.index-target.result.now count.result f.spots count.ensures.count c.index-target.ensures in (
      c.requires.0,
      (
        x.0,
        (
          c.next_window-base.ensures ∙ end_is code (kept old) k [] t.world f.holds f.waits f.sized,
          (
            after_room code mid d.new.self c.next_window-base.result d.result d.ensures room more,
            (
              record { spot = x.1; formal = c.in_ok-formal.ensures ∙ read; part = c.in_ok-part.ensures ∙ ap (λ (s : Spot). part_at s) read },
              (f.noting, note_room d.new.self c.args.creation notes),
            ),
          ),
        ),
      ),
    )

pub returns-clause-ok : goal.returns-clause-ok
returns-clause-ok g c =
    let goes = c.in_ok-prepare_finalization.ensures.ok.1 in
    let d = c.drop_frame-spot in
    makes_later c.args.code.now c.args.engine.now d.new.self c.adjust_own.new.engine _ (d.ensures.events ∙ goes.events) (d.ensures.picks ∙ goes.picks) c.adjust_own.ensures
