use Rattle.std.proofs.Common.{◌≡◌, ◌∷◌, ◌∙◌, ◌-◌, ℕ, List, [], ap, arith, drop, length, refl, reverse, subst, sym}
use Rattle.std.specs.Prelude.{slice_get}
use Rattle.std.proofs.lemmas.List.{append-nil}
use Rattle.std.proofs.lemmas.Option.{slice_get_within}
use Rattle.ctl_meaning.specs.Finalization.{Spot}
use Rattle.ctl_meaning.specs.Lists.{pull_item, pull_rest}
use Rattle.ctl_meaning.specs.Outcome.{Fine}
use Rattle.ctl_code.specs.declared.code.Begun.{Begun}
use Rattle.ctl_code.specs.States as T
use Rattle.ctl_code.specs.States.{Move}
use Rattle.ctl_code.specs.Table.{adjust_part, component_of, controlled_of, handed}
use Rattle.ctl_engine.specs.declared.engine.Engine.{Engine}
use Rattle.ctl_frames.specs.declared.frame.Mode.TheVariants as ModeOf
use Rattle.ctl_frames.specs.declared.frame.Frame.{Frame}
use Rattle.ctl_frames.specs.declared.frame.Frame.TheVariants as FrameOf
use Rattle.ctl_frames.specs.Filling.{IsChosen, noted_among, pick_among}
use Rattle.ctl_engine.specs.Finishing.{BeginsOver, Finishes}
use Rattle.ctl_engine.specs.Moves.{Chooses, Makes}
use Rattle.ctl_frames.specs.Noted.{IsNoting}
use Rattle.ctl_engine.specs.Shows.{Kept, kept}
use Rattle.ctl_frames.specs.Spots.{spots_in}
use Rattle.ctl_lifetimes.proofs.Finishing.{finished_gives}
use Rattle.ctl_frames.proofs.Lists.{same_at}
use Rattle.ctl_lifetimes.proofs.NextAdjusted.{next_by_type, next_elementary, note_room, rest_adjusts, still_noting}
use Rattle.ctl_lifetimes.proofs.NextPart.{chooses, noted_so, own_doubles, some_begun}
use Rattle.ctl_lifetimes.proofs.NextWindow.{end_is, tall_within}
use Rattle.ctl_frames.proofs.StillLeft.{count_left}
use Rattle.ctl_frames.proofs.Words.{last_there}
use Rattle.ctl_lifetimes.proofs.adjusting.adjust_next.Goals as goal

pub choose-chosen-requires : goal.choose-chosen-requires
choose-chosen-requires g c =
    let f = c.requires.1.0 in
    let many = count_left (controlled_of c.args.code.now c.args.record) g.t.1 c.args.left f.are in
    let some = c.requires.1.1.0 in
    omega (arith, many, some)

pub controlled_at-component-requires : goal.controlled_at-component-requires
controlled_at-component-requires g c =
    let all = controlled_of c.args.code.now c.args.record in
    let chosen = c.choose-chosen.ensures.chosen all g.t.1 c.requires.1.0.are in
    slice_get_within all c.choose-chosen.result.at (pull_item some_begun c.choose-chosen.result.pick g.t.1) (chosen.chosen some_begun)

pub returns-in_default-clause-ok : goal.returns-in_default-clause-ok
returns-in_default-clause-ok g c =
    let code = c.args.code.now in
    let old = c.args.engine.now in
    let type = c.args.record in
    let t = g.t.0 in
    let left = g.t.1 in
    let f = c.requires.1.0 in
    let all = controlled_of code type in
    let x = c.choose-chosen.result in
    let many = count_left all left c.args.left f.are in
    let pick : x.pick ≡ pick_among c.args.order (length left) = c.choose-chosen.ensures.pick ∙ ap (λ n. pick_among c.args.order n) (sym many) in
    let chosen = subst (λ n. IsChosen all left n x.at x.rest) pick (c.choose-chosen.ensures.chosen all left f.are) in
    let y = c.controlled_at-component.result in
    let is : (d : Begun) → y ≡ pull_item d (pick_among c.args.order (length left)) left = λ d. same_at y (pull_item d (pick_among c.args.order (length left)) left) (slice_get all x.at) c.controlled_at-component.ensures (chosen.chosen d) in
    let right = pull_rest (pick_among c.args.order (length left)) left in
    let frame = FrameOf.Adjusting c.args.creation type x.rest in
    let control : reverse c.replace_top.new.control.items ≡ frame ∷ drop 1 (reverse old.control.items) = c.replace_top.ensures.items in
    let are = ap (λ (l : List Frame). record (kept old) { control = l }) control ∙ ap (λ (l : List ℕ). record (kept old) { control = frame ∷ drop 1 (reverse old.control.items); cells = l }) (sym (append-nil old.cells.items)) in
    let new : Engine = record old { mode = ModeOf.Giving c.handed.result; control = c.replace_top.new.control; picks = c.note_pick.new.picks } in
    let b : Finishes code new (record { spot = t.spot; control = T.Adjusting c.args.creation t.spot type right ∷ t.control; world = t.world }) = rest_adjusts code old new c.args.creation type c.args.left x.rest t.spot t left right [] f chosen.rest are in
    let noted = noted_so old.picks.items c.reserve.new.vector.items c.note_pick.new.picks.items c.count-candidates.result (length left) x.pick c.args.order c.note_pick.ensures c.reserve.ensures.items (c.count-candidates.ensures ∙ sym many) pick in
    let move = next_elementary code c.args.creation t.spot type left c.args.failed (pick_among c.args.order (length left)) t.control t.world y c.requires.1.1.0 is c.in_default.not-ByType in
    subst (λ (m : Move). Chooses code old new m (noted_among (length left) (pick_among c.args.order (length left)))) (sym move)
    (chooses code old new new _ _ refl noted (finished_gives code new new (record { spot = t.spot; control = T.Adjusting c.args.creation t.spot type right ∷ t.control; world = t.world }) c.handed.result (Fine (handed c.args.failed)) b refl c.handed.ensures refl refl))

pub next_window-base-requires : goal.next_window-base-requires
next_window-base-requires g c =
    let code = c.args.code.now in
    let old = c.args.engine.now in
    let t = g.t.0 in
    let f = c.requires.1.0 in
    let k : List T.Frame = T.Adjusting c.args.creation t.spot c.args.record g.t.1 ∷ t.control in
    let end = end_is code (kept old) k [] t.world f.holds f.waits f.sized in
    let within = tall_within code (kept old) k [] t.world f.holds in
    let few = old.cells.ok.0 in
    omega (arith, end, within, few)

pub adjust_part-requires : goal.adjust_part-requires
adjust_part-requires g c =
    let code = c.args.code.now in
    let old = c.args.engine.now in
    let type = c.args.record in
    let t = g.t.0 in
    let left = g.t.1 in
    let f = c.requires.1.0 in
    let rest = c.requires.1.1.1.0 in
    let all = controlled_of code type in
    let x = c.choose-chosen.result in
    let many = count_left all left c.args.left f.are in
    let pick : x.pick ≡ pick_among c.args.order (length left) = c.choose-chosen.ensures.pick ∙ ap (λ n. pick_among c.args.order n) (sym many) in
    let chosen = subst (λ n. IsChosen all left n x.at x.rest) pick (c.choose-chosen.ensures.chosen all left f.are) in
    let right = pull_rest (pick_among c.args.order (length left)) left in
    let goes = c.in_ok-prepare_finalization.ensures.ok in
    let room = c.in_ok-prepare_finalization.ensures.room in
    let frame = FrameOf.Adjusting c.args.creation type x.rest in
    let control : reverse c.replace_top-2.new.control.items ≡ frame ∷ drop 1 (reverse c.prepare_finalization.new.self.control.items) = c.replace_top-2.ensures.items in
    let are = ap (λ (l : List Frame). record (kept c.prepare_finalization.new.self) { control = l }) control ∙ ap (λ (e : Kept). record e { control = frame ∷ drop 1 e.control }) goes.1.kept in
    let k : List T.Frame = T.Adjusting c.args.creation t.spot type left ∷ t.control in
    let mid : Engine = record c.prepare_finalization.new.self { control = c.replace_top-2.new.control; picks = c.note_pick-2.new.picks } in
    let p = c.in_ok-doubles.doubles.spot in
    let b : Finishes code mid (record { spot = p; control = T.Adjusting c.args.creation t.spot type right ∷ t.control; world = t.world }) = rest_adjusts code old mid c.args.creation type c.args.left x.rest p t left right goes.0 f chosen.rest are in
    let base = c.next_window-base.ensures ∙ end_is code (kept old) k [] t.world f.holds f.waits f.sized in
    let len = c.replace_top-2.ensures.len in
    let capacity = c.replace_top-2.ensures.capacity in
    let frames = c.in_ok-prepare_finalization.ensures.control in (
      c.requires.0,
      (
        subst (λ (h : T.Frame). Finishes code mid (record { spot = p; control = h ∷ t.control; world = t.world })) (sym rest) b,
        (
          subst (λ (h : T.Frame). BeginsOver c.next_window-base.result (record { spot = p; control = h ∷ t.control; world = t.world })) (sym rest) base,
          (
            record {
              call = record { masters = room.masters; control = omega (arith, len, capacity, frames); events = room.events; formals = room.formals; cells = room.cells; number = room.number };
              control = omega (arith, len, capacity, frames);
              spots = c.in_ok-prepare_finalization.ensures.spots;
            },
            (
              own_doubles c.in_ok-doubles.doubles _ c.in_ok-doubles.ensures.2,
              (
                subst (λ (h : T.Frame). IsNoting c.args.creation (h ∷ t.control)) (sym rest) (still_noting c.args.creation t.spot type right t.control f.noting),
                note_room mid c.args.creation c.in_ok-prepare_finalization.ensures.notes,
              ),
            ),
          ),
        ),
      ),
    )

pub returns-clause-ok : goal.returns-clause-ok
returns-clause-ok g c =
    let code = c.args.code.now in
    let old = c.args.engine.now in
    let record_type = c.args.record in
    let t = g.t.0 in
    let left = g.t.1 in
    let f = c.requires.1.0 in
    let rest = c.requires.1.1.1.0 in
    let all = controlled_of code record_type in
    let x = c.choose-chosen.result in
    let many = count_left all left c.args.left f.are in
    let pick : x.pick ≡ pick_among c.args.order (length left) = c.choose-chosen.ensures.pick ∙ ap (λ n. pick_among c.args.order n) (sym many) in
    let chosen = subst (λ n. IsChosen all left n x.at x.rest) pick (c.choose-chosen.ensures.chosen all left f.are) in
    let y = c.controlled_at-component.result in
    let is : (d : Begun) → y ≡ pull_item d (pick_among c.args.order (length left)) left = λ d. same_at y (pull_item d (pick_among c.args.order (length left)) left) (slice_get all x.at) c.controlled_at-component.ensures (chosen.chosen d) in
    let goes = c.in_ok-prepare_finalization.ensures.ok in
    let copied = c.in_ok-doubles.ensures in
    let part : copied.0 ≡ t.spot = same_at copied.0 t.spot (slice_get old.spots.items (length old.spots.items - 1)) copied.1 (last_there old.spots.items (spots_in t.control) t.spot f.spots) in
    let spot : c.in_ok-doubles.doubles.spot ≡ component_of t.spot y.offset y.position = copied.2.spot ∙ ap (λ (s : Spot). component_of s y.offset y.position) part in
    let noted = noted_so old.picks.items c.prepare_finalization.new.self.picks.items c.note_pick-2.new.picks.items c.count-candidates.result (length left) x.pick c.args.order c.note_pick-2.ensures (ap (λ v. v.items) c.prepare_finalization.ensures.choices ∙ c.reserve.ensures.items) (c.count-candidates.ensures ∙ sym many) pick in
    let move = next_by_type code c.args.creation t.spot record_type left c.args.failed (pick_among c.args.order (length left)) t.control t.world y c.in-ByType.record_type c.requires.1.1.0 is c.in-ByType.is in
    let type = c.in-ByType.record_type in
    let mid : Engine = record c.prepare_finalization.new.self { control = c.replace_top-2.new.control; picks = c.note_pick-2.new.picks } in
    let made = subst (λ (s : Spot). Makes code mid c.adjust_part.new.engine (adjust_part code c.args.creation s type c.args.failed (T.Adjusting c.args.creation t.spot record_type (pull_rest (pick_among c.args.order (length left)) left) ∷ t.control) t.world)) spot
    (subst (λ (h : T.Frame). Makes code mid c.adjust_part.new.engine (adjust_part code c.args.creation c.in_ok-doubles.doubles.spot type c.args.failed (h ∷ t.control) t.world)) rest c.adjust_part.ensures) in
    subst (λ (m : Move). Chooses code old c.adjust_part.new.engine m (noted_among (length left) (pick_among c.args.order (length left)))) (sym move)
    (chooses code old mid c.adjust_part.new.engine _ _ goes.1.events noted made)
