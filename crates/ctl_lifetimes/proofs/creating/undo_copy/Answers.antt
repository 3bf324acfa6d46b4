use Rattle.std.proofs.Common.{◌≡◌, ◌∷◌, ◌++◌, ◌∙◌, ◌+◌, ◌<◌, ◌≤◌, List, [], ℕ, ap, arith, drop, length, reverse, subst, sym}
use Rattle.std.specs.Prelude.{◌^◌, vec_capacity, vec_len}
use Rattle.std.proofs.lemmas.List.{reverse-append}
use Rattle.ctl_meaning.specs.Changes.{begin_finalization}
use Rattle.ctl_meaning.specs.Finalization.{Spot}
use Rattle.ctl_engine.specs.declared.engine.Engine.{Engine}
use Rattle.ctl_frames.specs.declared.frame.Frame.{Frame}
use Rattle.ctl_frames.specs.declared.frame.Frame.TheVariants as FrameOf
use Rattle.ctl_engine.specs.Finishing.{AreDoubles}
use Rattle.ctl_engine.specs.Shows.{Holds, Kept, kept, with_cells}
use Rattle.ctl_lifetimes.proofs.CopyUndone.{are_undone, begins_undone, copy_undone, finishes_undone, over_to, spot_undone, undone_in, with_undoing}
use Rattle.ctl_engine.proofs.Following.{makes_later}
use Rattle.ctl_lifetimes.proofs.NextWindow.{end_is, tall_within}
use Rattle.ctl_lifetimes.proofs.creating.undo_copy.Goals as goal

pub next_window-base-requires : goal.next_window-base-requires
next_window-base-requires g c =
    let code = c.args.code.now in
    let old = c.args.engine.now in
    let b = c.requires.1.0 in
    let end = end_is code (kept old) g.s.control g.s.operands g.s.world b.holds b.waits b.sized in
    let within = tall_within code (kept old) g.s.control g.s.operands g.s.world b.holds in
    let few = old.cells.ok.0 in
    omega (arith, end, within, few)

pub replace_top-requires : goal.replace_top-requires
replace_top-requires g c =
    let old = c.args.engine.now in
    let some = c.requires.1.1.0.some in
    let all = old.control.ok.1 in
    let same = c.prepare_finalization.ensures.waiting in
    omega (arith, some, all, same)

pub undo_part-requires : goal.undo_part-requires
undo_part-requires g c =
    let code = c.args.code.now in
    let old = c.args.engine.now in
    let creation = c.args.creation in
    let object = c.args.object in
    let type = c.args.record in
    let first = c.args.first in
    let b = c.requires.1.0 in
    let u = c.requires.1.1.0 in
    let goes = c.in_ok-prepare_finalization.ensures.ok in
    let room = c.in_ok-prepare_finalization.ensures.room in
    let ready = c.prepare_finalization.new.self in
    let e = c.begin_finalization.ensures in
    let mid = c.begin_finalization.new.self in
    let undoing = FrameOf.Undoing object first in
    let control : reverse c.push_reserved.new.self.items ≡ undoing ∷ creation ∷ drop 1 (reverse old.control.items) =
    ap (λ (l : List Frame). reverse l) c.push_reserved.ensures.items
    ∙ (reverse-append c.replace_top.new.control.items (undoing ∷ [])
    ∙ (ap (λ (l : List Frame). undoing ∷ l) c.replace_top.ensures.items
    ∙ ap (λ (x : Kept). undoing ∷ creation ∷ drop 1 x.control) goes.1.kept)) in
    let before : Engine = record ready { control = c.push_reserved.new.self } in
    let are : kept before ≡ with_undoing creation object first (with_cells (kept old) (old.cells.items ++ goes.0)) =
    ap (λ (l : List Frame). record (kept ready) { control = l }) control ∙ ap (λ (x : Kept). record x { control = undoing ∷ creation ∷ drop 1 (reverse old.control.items) }) goes.1.kept in
    let x = undone_in g.s.control g.s.world in
    let over : Holds code (kept before) x.control [] g.s.world = subst (λ (y : Kept). Holds code y x.control [] g.s.world) (sym are) (over_to code old creation object type first g.s goes.0 b u) in
    let begun : Holds code (kept mid) x.control [] (begin_finalization object g.s.world) = e.holds code x.control [] g.s.world over in
    let spots : mid.spots.items ≡ old.spots.items = ap (λ v. v.items) e.spots ∙ ap (λ (y : Kept). y.spots) goes.1.kept in
    let base = c.next_window-base.ensures ∙ end_is code (kept old) g.s.control g.s.operands g.s.world b.holds b.waits b.sized in
    let whole : c.whole.result ≡ x.spot = c.whole.ensures ∙ sym (spot_undone code old creation object type first g.s u) in
    let len = c.replace_top.ensures.len in
    let capacity = c.replace_top.ensures.capacity in
    let longer = c.push_reserved.ensures.len in
    let wide = c.push_reserved.ensures.capacity in
    let frames = c.in_ok-prepare_finalization.ensures.control in
    let given : mid.given_masters ≡ ready.given_masters = e.given in
    let cells : mid.cells.items ≡ ready.cells.items = ap (λ (y : Kept). y.cells) e.kept in (
      c.requires.0,
      (
        finishes_undone code old mid creation object type first g.s b u spots begun,
        (
          begins_undone code old creation object type first c.next_window-base.result g.s u base,
          (
            record {
              call = record {
                masters = subst (λ v. vec_len v < vec_capacity v) (sym e.others.0) room.masters;
                control = subst (λ v. vec_len v < vec_capacity v) (sym e.control) (omega (arith, len, capacity, longer, wide, frames));
                events = subst (λ v. vec_len v < vec_capacity v) (sym e.events) room.events;
                formals = subst (λ v. vec_len v < vec_capacity v) (sym e.others.1) room.formals;
                cells = subst (λ (l : List ℕ). c.next_window-base.result + code.room ≤ length l) (sym cells) room.cells;
                number = subst (λ n. n + 1 < 2 ^ 64) (sym given) room.number;
              };
              control = subst (λ v. vec_len v + 2 ≤ vec_capacity v) (sym e.control) (omega (arith, len, capacity, longer, wide, frames));
              spots = subst (λ v. vec_len v < vec_capacity v) (sym e.spots) c.in_ok-prepare_finalization.ensures.spots;
            },
            (
              subst (λ (z : Spot). AreDoubles c.in_ok-doubles.doubles z) whole c.in_ok-doubles.ensures,
              are_undone code old creation object type first g.s u,
            ),
          ),
        ),
      ),
    )

pub returns-clause-ok : goal.returns-clause-ok
returns-clause-ok g c =
    let code = c.args.code.now in
    let old = c.args.engine.now in
    let goes = c.in_ok-prepare_finalization.ensures.ok in
    copy_undone code old c.undo_part.new.engine c.args.creation c.args.object c.args.record c.args.first g.s c.requires.1.1.0
    (makes_later code old c.begin_finalization.new.self c.undo_part.new.engine _ (ap (λ v. v.items) c.begin_finalization.ensures.events ∙ goes.1.events) (ap (λ v. v.items) c.begin_finalization.ensures.picks ∙ goes.1.picks) c.undo_part.ensures)
