use Rattle.std.proofs.Common.{◌≡◌, ◌∷◌, ◌++◌, ◌∙◌, ◌<◌, ◌-◌, ℕ, List, [], ap, arith, drop, length, refl, reverse, subst, sym}
use Rattle.std.specs.Prelude.{slice_get}
use Rattle.std.proofs.lemmas.List.{append-nil}
use Rattle.std.proofs.lemmas.Option.{slice_get_within}
use Rattle.ctl_meaning.specs.Finalization.{Spot}
use Rattle.ctl_meaning.specs.Lists.{pull_item, pull_rest}
use Rattle.ctl_meaning.specs.Outcome.{Fine}
use Rattle.ctl_code.specs.declared.code.Begun.{Begun}
use Rattle.ctl_code.specs.States as T
use Rattle.ctl_code.specs.States.{Move}
use Rattle.ctl_code.specs.Table.{component_of, controlled_of, part_at, parts_of, undo_part}
use Rattle.ctl_engine.specs.declared.engine.Engine.{Engine}
use Rattle.ctl_frames.specs.declared.frame.Ended.TheVariants.{Complete}
use Rattle.ctl_frames.specs.declared.frame.Mode.TheVariants as ModeOf
use Rattle.ctl_frames.specs.declared.frame.Frame.{Frame}
use Rattle.ctl_frames.specs.declared.frame.Frame.TheVariants as FrameOf
use Rattle.ctl_frames.specs.Filling.{is_undone, noted_among, pick_among}
use Rattle.ctl_engine.specs.Finishing.{BeginsOver, Finishes}
use Rattle.ctl_engine.specs.Moves.{Chooses, Makes}
use Rattle.ctl_frames.specs.Noted.{IsUndone}
use Rattle.ctl_engine.specs.Shows.{Kept, kept}
use Rattle.ctl_frames.specs.Spots.{spots_in}
use Rattle.ctl_lifetimes.specs.Undoing.{IsChosenAmong}
use Rattle.ctl_lifetimes.proofs.AfterUndoing.{chosen_so, left_so, spot_read}
use Rattle.ctl_lifetimes.proofs.Among.{one_fewer}
use Rattle.ctl_lifetimes.proofs.Finishing.{finished_gives}
use Rattle.ctl_frames.proofs.Lists.{same_at}
use Rattle.ctl_lifetimes.proofs.NextPart.{chooses, some_begun}
use Rattle.ctl_lifetimes.proofs.NextUndone.{next_by_type, next_elementary, rest_undoes}
use Rattle.ctl_lifetimes.proofs.NextWindow.{end_is, tall_within}
use Rattle.ctl_frames.proofs.Words.{last_there}
use Rattle.ctl_lifetimes.proofs.undoing.undo_next.Goals as goal

pub choose_undone-chosen-requires : goal.choose_undone-chosen-requires
choose_undone-chosen-requires g c =
    let code = c.args.code.now in
    let old = c.args.engine.now in
    let f = c.requires.1.0 in
    let s = c.index.result.now in
    let same = spot_read code old c.args.record c.args.count c.args.first c.count_spots-newest.result c.args.left g.t.0 g.t.1 s f c.count_spots-newest.ensures.count c.index.ensures in
    record {
      within = f.are.within;
      some = c.requires.1.1.0;
      count = f.many ∙ ap (λ (l : List Begun). length l) (sym (left_so code old c.args.record c.args.count c.args.first c.args.left g.t.0 g.t.1 s f same));
    }

pub controlled_at-component-requires : goal.controlled_at-component-requires
controlled_at-component-requires g c =
    let chosen = c.choose_undone-chosen.ensures.1 in
    slice_get_within (controlled_of c.args.code.now c.args.record) c.choose_undone-chosen.result.at (pull_item some_begun c.choose_undone-chosen.result.pick _) (chosen.chosen some_begun)

pub returns-in_default-clause-ok : goal.returns-in_default-clause-ok
returns-in_default-clause-ok g c =
    let code = c.args.code.now in
    let old = c.args.engine.now in
    let type = c.args.record in
    let t = g.t.0 in
    let left = g.t.1 in
    let f = c.requires.1.0 in
    let all = controlled_of code type in
    let count = f.many in
    let positive = c.requires.1.1.0 in
    let some : 0 < length left = omega (arith, positive, count) in
    let x = c.choose_undone-chosen.result in
    let s = c.index.result.now in
    let same = spot_read code old type c.args.count c.args.first c.count_spots-newest.result c.args.left t left s f c.count_spots-newest.ensures.count c.index.ensures in
    let pick : x.pick ≡ pick_among c.args.order (length left) = c.choose_undone-chosen.ensures.0 ∙ ap (λ n. pick_among c.args.order n) count in
    let chosen = subst (λ n. IsChosenAmong all (is_undone t.spot t.control) left n x.at x.rest) pick (chosen_so code old type c.args.count c.args.first x.pick x.at c.args.left x.rest t left s f same c.choose_undone-chosen.ensures.1) in
    let y = c.controlled_at-component.result in
    let is : (d : Begun) → y ≡ pull_item d (pick_among c.args.order (length left)) left = λ d. same_at y (pull_item d (pick_among c.args.order (length left)) left) (slice_get all x.at) c.controlled_at-component.ensures (chosen.chosen d) in
    let right = pull_rest (pick_among c.args.order (length left)) left in
    let fewer = one_fewer c.args.order left c.args.count f.many c.requires.1.1.0 in
    let frame = FrameOf.UndoingParts type x.rest (c.args.count - 1) c.args.first in
    let control : reverse c.replace_top.new.control.items ≡ frame ∷ drop 1 (reverse old.control.items) = c.replace_top.ensures.items in
    let are = ap (λ (l : List Frame). record (kept old) { control = l }) control ∙ ap (λ (l : List ℕ). record (kept old) { control = frame ∷ drop 1 (reverse old.control.items); cells = l }) (sym (append-nil old.cells.items)) in
    let new : Engine = record old { mode = ModeOf.Giving Complete; control = c.replace_top.new.control; picks = c.note_pick.new.picks } in
    let b : Finishes code new (record { spot = t.spot; control = T.UndoingParts t.spot right ∷ t.control; world = t.world }) = rest_undoes code old new type c.args.count (c.args.count - 1) c.args.first c.args.left x.rest t.spot t left right [] f chosen.rest fewer are in
    let noted : c.note_pick.new.picks.items ≡ old.picks.items ++ noted_among (length left) (pick_among c.args.order (length left)) =
    c.note_pick.ensures
    ∙ (ap (λ (l : List ℕ). l ++ noted_among c.args.count x.pick) c.reserve.ensures.items
    ∙ (ap (λ n. old.picks.items ++ noted_among n x.pick) count
    ∙ ap (λ n. old.picks.items ++ noted_among (length left) n) pick)) in
    let move = next_elementary code t.spot left (pick_among c.args.order (length left)) t.control t.world y some is c.in_default.not-ByType in
    subst (λ (m : Move). Chooses code old new m (noted_among (length left) (pick_among c.args.order (length left)))) (sym move)
    (chooses code old new new _ _ refl noted (finished_gives code new new (record { spot = t.spot; control = T.UndoingParts t.spot right ∷ t.control; world = t.world }) Complete (Fine T.Complete) b refl refl refl refl))

pub next_window-base-requires : goal.next_window-base-requires
next_window-base-requires g c =
    let code = c.args.code.now in
    let old = c.args.engine.now in
    let t = g.t.0 in
    let f = c.requires.1.0 in
    let k : List T.Frame = T.UndoingParts t.spot g.t.1 ∷ t.control in
    let end = end_is code (kept old) k [] t.world f.holds f.waits f.sized in
    let within = tall_within code (kept old) k [] t.world f.holds in
    let few = old.cells.ok.0 in
    omega (arith, end, within, few)

pub undo_part-requires : goal.undo_part-requires
undo_part-requires g c =
    let code = c.args.code.now in
    let old = c.args.engine.now in
    let type = c.args.record in
    let t = g.t.0 in
    let left = g.t.1 in
    let f = c.requires.1.0 in
    let rest = c.requires.1.1.1.0 in
    let all = controlled_of code type in
    let count = f.many in
    let x = c.choose_undone-chosen.result in
    let s = c.index.result.now in
    let same = spot_read code old type c.args.count c.args.first c.count_spots-newest.result c.args.left t left s f c.count_spots-newest.ensures.count c.index.ensures in
    let pick : x.pick ≡ pick_among c.args.order (length left) = c.choose_undone-chosen.ensures.0 ∙ ap (λ n. pick_among c.args.order n) count in
    let chosen = subst (λ n. IsChosenAmong all (is_undone t.spot t.control) left n x.at x.rest) pick (chosen_so code old type c.args.count c.args.first x.pick x.at c.args.left x.rest t left s f same c.choose_undone-chosen.ensures.1) in
    let right = pull_rest (pick_among c.args.order (length left)) left in
    let goes = c.in_ok-prepare_finalization.ensures.ok in
    let room = c.in_ok-prepare_finalization.ensures.room in
    let fewer = one_fewer c.args.order left c.args.count f.many c.requires.1.1.0 in
    let frame = FrameOf.UndoingParts type x.rest (c.args.count - 1) c.args.first in
    let control : reverse c.replace_top-2.new.control.items ≡ frame ∷ drop 1 (reverse c.prepare_finalization.new.self.control.items) = c.replace_top-2.ensures.items in
    let are = ap (λ (l : List Frame). record (kept c.prepare_finalization.new.self) { control = l }) control ∙ ap (λ (e : Kept). record e { control = frame ∷ drop 1 e.control }) goes.1.kept in
    let k : List T.Frame = T.UndoingParts t.spot left ∷ t.control in
    let mid : Engine = record c.prepare_finalization.new.self { control = c.replace_top-2.new.control; picks = c.note_pick-2.new.picks } in
    let p = c.in_ok-doubles.doubles.spot in
    let b : Finishes code mid (record { spot = p; control = T.UndoingParts t.spot right ∷ t.control; world = t.world }) = rest_undoes code old mid type c.args.count (c.args.count - 1) c.args.first c.args.left x.rest p t left right goes.0 f chosen.rest fewer are in
    let base = c.next_window-base.ensures ∙ end_is code (kept old) k [] t.world f.holds f.waits f.sized in
    let doubles = c.in_ok-doubles.ensures.2 in
    let len = c.replace_top-2.ensures.len in
    let capacity = c.replace_top-2.ensures.capacity in
    let frames = c.in_ok-prepare_finalization.ensures.control in (
      c.requires.0,
      (
        subst (λ (h : T.Frame). Finishes code mid (record { spot = p; control = h ∷ t.control; world = t.world })) (sym rest) b,
        (
          subst (λ (h : T.Frame). BeginsOver c.next_window-base.result (record { spot = p; control = h ∷ t.control; world = t.world })) (sym rest) base,
          (
            record {
              call = record { masters = room.masters; control = omega (arith, len, capacity, frames); events = room.events; formals = room.formals; cells = room.cells; number = room.number };
              control = omega (arith, len, capacity, frames);
              spots = c.in_ok-prepare_finalization.ensures.spots;
            },
            (
              record { spot = refl; formal = doubles.formal ∙ sym doubles.spot; part = doubles.part ∙ ap (λ (z : Spot). part_at z) (sym doubles.spot) },
              subst (λ (h : T.Frame). IsUndone c.args.first (h ∷ t.control)) (sym rest) f.undone,
            ),
          ),
        ),
      ),
    )

pub returns-clause-ok : goal.returns-clause-ok
returns-clause-ok g c =
    let code = c.args.code.now in
    let old = c.args.engine.now in
    let record_type = c.args.record in
    let t = g.t.0 in
    let left = g.t.1 in
    let f = c.requires.1.0 in
    let rest = c.requires.1.1.1.0 in
    let all = controlled_of code record_type in
    let count = f.many in
    let positive = c.requires.1.1.0 in
    let some : 0 < length left = omega (arith, positive, count) in
    let x = c.choose_undone-chosen.result in
    let s = c.index.result.now in
    let same = spot_read code old record_type c.args.count c.args.first c.count_spots-newest.result c.args.left t left s f c.count_spots-newest.ensures.count c.index.ensures in
    let pick : x.pick ≡ pick_among c.args.order (length left) = c.choose_undone-chosen.ensures.0 ∙ ap (λ n. pick_among c.args.order n) count in
    let chosen = subst (λ n. IsChosenAmong all (is_undone t.spot t.control) left n x.at x.rest) pick (chosen_so code old record_type c.args.count c.args.first x.pick x.at c.args.left x.rest t left s f same c.choose_undone-chosen.ensures.1) in
    let y = c.controlled_at-component.result in
    let is : (d : Begun) → y ≡ pull_item d (pick_among c.args.order (length left)) left = λ d. same_at y (pull_item d (pick_among c.args.order (length left)) left) (slice_get all x.at) c.controlled_at-component.ensures (chosen.chosen d) in
    let goes = c.in_ok-prepare_finalization.ensures.ok in
    let copied = c.in_ok-doubles.ensures in
    let part : copied.0 ≡ t.spot = same_at copied.0 t.spot (slice_get old.spots.items (length old.spots.items - 1)) copied.1 (last_there old.spots.items (spots_in t.control) t.spot f.spots) in
    let spot : c.in_ok-doubles.doubles.spot ≡ component_of t.spot y.offset y.position = copied.2.spot ∙ ap (λ (z : Spot). component_of z y.offset y.position) part in
    let noted : c.note_pick-2.new.picks.items ≡ old.picks.items ++ noted_among (length left) (pick_among c.args.order (length left)) =
    c.note_pick-2.ensures
    ∙ (ap (λ v. v.items ++ noted_among c.args.count x.pick) c.prepare_finalization.ensures.choices
    ∙ (ap (λ (l : List ℕ). l ++ noted_among c.args.count x.pick) c.reserve.ensures.items
    ∙ (ap (λ n. old.picks.items ++ noted_among n x.pick) count
    ∙ ap (λ n. old.picks.items ++ noted_among (length left) n) pick))) in
    let move = next_by_type code t.spot left (pick_among c.args.order (length left)) t.control t.world y c.in-ByType.record_type some is c.in-ByType.is in
    let type = c.in-ByType.record_type in
    let mid : Engine = record c.prepare_finalization.new.self { control = c.replace_top-2.new.control; picks = c.note_pick-2.new.picks } in
    let made = subst (λ (z : Spot). Makes code mid c.undo_part.new.engine (undo_part code (parts_of code type) z type (T.UndoingParts t.spot (pull_rest (pick_among c.args.order (length left)) left) ∷ t.control) t.world)) spot
    (subst (λ (h : T.Frame). Makes code mid c.undo_part.new.engine (undo_part code (parts_of code type) c.in_ok-doubles.doubles.spot type (h ∷ t.control) t.world)) rest c.undo_part.ensures) in
    subst (λ (m : Move). Chooses code old c.undo_part.new.engine m (noted_among (length left) (pick_among c.args.order (length left)))) (sym move)
    (chooses code old mid c.undo_part.new.engine _ _ goes.1.events noted made)
