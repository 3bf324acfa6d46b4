use Rattle.std.proofs.Common.{◌≡◌, ◌∷◌, ◌++◌, ◌∙◌, List, [], ap, arith, refl, reverse, sym}
use Rattle.std.proofs.lemmas.List.{reverse-append}
use Rattle.ctl_tree.specs.declared.event.Cause.TheVariants.{Failed}
use Rattle.ctl_tree.specs.declared.event.Event.TheVariants.{Finalize}
use Rattle.ctl_tree.specs.declared.event.Part.{Part}
use Rattle.ctl_meaning.specs.Finalization.{Spot}
use Rattle.ctl_frames.specs.declared.frame.Frame.{Frame}
use Rattle.ctl_frames.specs.declared.frame.Frame.TheVariants.{UndoingOwn}
use Rattle.ctl_engine.specs.Assigning.{Called}
use Rattle.ctl_engine.specs.Finishing.{with_frames}
use Rattle.ctl_engine.specs.Shows.{kept}
use Rattle.ctl_lifetimes.proofs.Undone.{calls_undone, undone_makes}
use Rattle.ctl_lifetimes.proofs.undoing.call_undone.Goals as goal

pub call_operation-requires : goal.call_operation-requires
call_operation-requires g c =
    let code = c.args.code.now in
    let old = c.args.engine.now in
    let x = c.args.undoing in
    let t = g.t.0 in
    let room = c.requires.1.1.1.0 in
    let doubles = c.requires.1.1.1.1.0 in
    let undone = c.requires.1.1.1.1.1.0 in
    let calls = c.requires.1.1.1.1.1.1 in
    let frame = UndoingOwn x.record_type x.first in
    let fs = frame ∷ reverse old.control.items in
    let control : reverse c.push_reserved.new.self.items ≡ fs = ap (λ (l : List Frame). reverse l) c.push_reserved.ensures.items ∙ reverse-append old.control.items (frame ∷ []) in
    let spots : c.push_reserved-2.new.self.items ≡ old.spots.items ++ t.spot ∷ [] = c.push_reserved-2.ensures.items ∙ ap (λ (s : Spot). old.spots.items ++ s ∷ []) doubles.spot in
    let are = ap (λ (l : List Frame). with_frames l c.push_reserved-2.new.self.items (kept old)) control ∙ ap (λ (l : List Spot). with_frames fs l (kept old)) spots in
    let len = c.push_reserved.ensures.len in
    let capacity = c.push_reserved.ensures.capacity in
    let more = room.control in (
      c.requires.0,
      (
        calls_undone code old _ c.args.entry.now x.record_type c.args.master x.base x.first t g.t.1 c.requires.1.0 c.requires.1.1.0 undone calls are,
        (
          doubles.formal ∙ sym (ap (λ (y : Called). y.spot) calls.is),
          record { masters = room.call.masters; control = omega (arith, len, capacity, more); events = room.call.events; formals = room.call.formals; cells = room.call.cells; number = room.call.number },
        ),
      ),
    )

pub returns : goal.returns
returns g c =
    let x = c.args.undoing in
    undone_makes c.args.code.now c.args.engine.now _ c.call_operation.new.self c.args.entry.now x.record_type c.args.master g.t.0 g.t.1 (Finalize c.args.doubles.part Failed) c.requires.1.0 c.requires.1.1.1.1.1.1
    (ap (λ (p : Part). Finalize p Failed) c.requires.1.1.1.1.0.part) refl refl c.call_operation.ensures
