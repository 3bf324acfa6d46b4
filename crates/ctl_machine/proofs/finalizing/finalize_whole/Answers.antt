use Rattle.std.proofs.Common.{◌≡◌, ◌∷◌, ◌∙◌, ◌+◌, ◌<◌, ◌≤◌, ℕ, List, [], ap, arith, length, refl, reverse, subst, sym}
use Rattle.std.specs.Prelude.{◌^◌, vec_capacity, vec_len}
use Rattle.std.proofs.lemmas.List.{reverse-append}
use Rattle.ctl_meaning.specs.Finalization.{Spot}
use Rattle.ctl_code.specs.States.{Move, whole_spot}
use Rattle.ctl_code.specs.Table.{finalize_part, part_at, parts_of}
use Rattle.ctl_engine.specs.declared.engine.Engine.{Engine}
use Rattle.ctl_frames.specs.declared.frame.Frame.{Frame}
use Rattle.ctl_frames.specs.declared.frame.Frame.TheVariants as FrameOf
use Rattle.ctl_engine.specs.Finishing.{BeginsOver, Finishes}
use Rattle.ctl_engine.specs.Moves.{Makes}
use Rattle.ctl_engine.specs.Shows.{Kept, kept}
use Rattle.ctl_places.proofs.FinalizedLayers.{object_finalized}
use Rattle.ctl_engine.proofs.Following.{makes_later}
use Rattle.ctl_allocations.proofs.WholeFinalized.{whole_base, whole_finishes, whole_of}
use Rattle.ctl_machine.proofs.finalizing.finalize_whole.Goals as goal

pub finalize_part-requires : goal.finalize_part-requires
finalize_part-requires g c =
    let code = c.args.code.now in
    let old = c.args.engine.now in
    let n = c.args.number in
    let cause = c.args.finalization.cause in
    let t = g.t in
    let r = c.requires.1 in
    let room = r.1.1.0 in
    let frames = r.1.1.1.0 in
    let spots = r.1.1.1.1.0 in
    let doubles = r.1.1.1.1.1.0 in
    let begun = c.begin_finalization.ensures in
    let before : Engine = record old { control = c.push_reserved.new.self } in
    let mid = c.begin_finalization.new.self in
    let control : reverse c.push_reserved.new.self.items ≡ FrameOf.Finalizing cause n ∷ reverse old.control.items = ap (λ (l : List Frame). reverse l) c.push_reserved.ensures.items ∙ reverse-append old.control.items (FrameOf.Finalizing cause n ∷ []) in
    let finishes = whole_finishes code old before mid cause n t r.0 (ap (λ (l : List Frame). record (kept old) { control = l }) control) (λ k w h. begun.holds code k [] w h) (ap (λ v. v.items) begun.spots) in
    let base = whole_base c.args.finalization.base cause n t r.1.0 in
    let len = c.push_reserved.ensures.len in
    let capacity = c.push_reserved.ensures.capacity in
    let is : c.args.doubles.spot ≡ whole_spot n = doubles.spot in (
      c.requires.0,
      (
        subst (λ (s : Spot). Finishes code mid (whole_of cause s t)) (sym is) finishes,
        (
          subst (λ (s : Spot). BeginsOver c.args.finalization.base (whole_of cause s t)) (sym is) base,
          (
            record {
              call = record {
                masters = subst (λ v. vec_len v < vec_capacity v) (sym begun.others.0) room.masters;
                control = subst (λ v. vec_len v < vec_capacity v) (sym begun.control) (omega (arith, len, capacity, frames));
                events = subst (λ v. vec_len v < vec_capacity v) (sym begun.events) room.events;
                formals = subst (λ v. vec_len v < vec_capacity v) (sym begun.others.1) room.formals;
                cells = subst (λ (l : List ℕ). c.args.finalization.base + code.room ≤ length l) (sym (ap (λ (e : Kept). e.cells) begun.kept)) room.cells;
                number = subst (λ i. i + 1 < 2 ^ 64) (sym begun.given) room.number;
              };
              control = subst (λ v. vec_len v + 2 ≤ vec_capacity v) (sym begun.control) (omega (arith, len, capacity, frames));
              spots = subst (λ v. vec_len v < vec_capacity v) (sym begun.spots) spots;
            },
            record { spot = refl; formal = doubles.formal ∙ sym is; part = doubles.part ∙ ap part_at (sym is) },
          ),
        ),
      ),
    )

pub returns : goal.returns
returns g c =
    let code = c.args.code.now in
    let old = c.args.engine.now in
    let n = c.args.number in
    let type = c.args.finalization.record_type in
    let cause = c.args.finalization.cause in
    let t = g.t in
    let doubles = c.requires.1.1.1.1.1.1.0 in
    let parts = c.requires.1.1.1.1.1.1.1 in
    let begun = c.begin_finalization.ensures in
    let mid = c.begin_finalization.new.self in
    let new = c.finalize_part.new.engine in
    let made = subst (λ (s : Spot). (let f = whole_of cause s t in Makes code mid new (finalize_part code (parts_of code type) cause f.spot type f.control f.world))) doubles.spot c.finalize_part.ensures in
    subst (λ (m : Move). Makes code old new m) (sym (object_finalized code (parts_of code type) cause n type t.control t.world parts))
    (makes_later code old mid new _ (ap (λ v. v.items) begun.events) (ap (λ v. v.items) begun.picks) made)
