use Rattle.std.proofs.Common.{◌≡◌, ◌+◌, ◌++◌, ◌∷◌, ◌∙◌, ◌≤◌, [], List, ℕ, ap, arith, reverse, subst, sym}
use Rattle.std.specs.Prelude.{vec_capacity, vec_len}
use Rattle.std.proofs.lemmas.List.{reverse-append}
use Rattle.ctl_meaning.specs.Finalization.{Spot}
use Rattle.ctl_meaning.specs.World.{Object}
use Rattle.ctl_engine.specs.declared.engine.Engine.{Engine}
use Rattle.ctl_engine.specs.Shows.{Kept, kept, with_cells}
use Rattle.ctl_frames.specs.declared.frame.Frame.{Frame}
use Rattle.ctl_frames.specs.declared.frame.Frame.TheVariants.{Assigning}
use Rattle.ctl_frames.specs.declared.frame.Value.TheVariants.{Saved}
use Rattle.ctl_lifetimes.specs.NewValues.{IsRead, is_of_record}
use Rattle.ctl_lifetimes.proofs.Assignments.{assign_waits, replaces_more, value_saved}
use Rattle.ctl_steps.proofs.assign.begin_assignment.Goals as goal

pub save_value-requires-clause-read : goal.save_value-requires-clause-read
save_value-requires-clause-read g c =
    let old = c.args.engine.now in
    let ready = c.prepare_finalization.new.self in
    let room = c.in_ok-prepare_finalization.ensures in
    let spots = ap (λ (z : Kept). z.spots) room.ok.1.kept in
    subst (λ (os : List Object). IsRead c.args.value ready.spots.items os) (sym (ap (λ v. v.objects) room.existing)) (subst (λ (l : List Spot). IsRead c.args.value l old.stock.objects) (sym spots) c.requires.1.0)

pub returns-clause-pending : goal.returns-clause-pending
returns-clause-pending g c =
    let code = c.args.code.now in
    let old = c.args.engine.now in
    let ready = c.prepare_finalization.new.self in
    let mid = c.save_value.new.engine in
    let t = g.t.0 in
    let v = g.t.1 in
    let type = c.args.record in
    let place = c.args.place in
    let r = c.requires.0 in
    let goes = c.in_ok-prepare_finalization.ensures.ok in
    let kept_ready : kept ready ≡ with_cells (kept old) (old.cells.items ++ goes.0) = goes.1.kept ∙ ap (λ (l : List ℕ). with_cells (record (kept old) { saved = l }) (old.cells.items ++ goes.0)) c.reserve.ensures.items in
    let r' = replaces_more code old ready type (is_of_record c.args.value) place t v goes.0 r kept_ready in
    let saved = value_saved code ready mid c.size_of-size.result type (is_of_record c.args.value) place t v r' c.size_of-size.ensures c.save_value.ensures.saves in
    let frame = Assigning type Saved place in
    let control : reverse c.push_reserved.new.self.items ≡ frame ∷ reverse mid.control.items = ap (λ (l : List Frame). reverse l) c.push_reserved.ensures.items ∙ reverse-append mid.control.items (frame ∷ []) in
    let are = ap (λ (l : List Frame). record (kept mid) { control = l }) control ∙ ap (λ (z : Kept). record z { control = frame ∷ z.control }) saved in
    let new : Engine = record mid { control = c.push_reserved.new.self } in
    assign_waits code ready new type (is_of_record c.args.value) place v t r' are

pub returns-clause-room : goal.returns-clause-room
returns-clause-room g c =
    let len = c.push_reserved.ensures.len in
    let capacity = c.push_reserved.ensures.capacity in
    let more = subst (λ x. vec_len x + 3 ≤ vec_capacity x) (sym c.save_value.ensures.waiting) c.in_ok-prepare_finalization.ensures.control in
    let room = c.save_value.ensures.room c.args.code.now c.args.base
    (record { call = c.in_ok-prepare_finalization.ensures.room; control = (let wide = c.in_ok-prepare_finalization.ensures.control in omega (arith, wide)); spots = c.in_ok-prepare_finalization.ensures.spots }) in
    record {
      call = record { masters = room.call.masters; control = omega (arith, len, capacity, more); events = room.call.events; formals = room.call.formals; cells = room.call.cells; number = room.call.number };
      control = omega (arith, len, capacity, more);
      spots = room.spots;
    }

pub returns-clause-events : goal.returns-clause-events
returns-clause-events g c = c.save_value.ensures.saves.events ∙ c.in_ok-prepare_finalization.ensures.ok.1.events

pub returns-clause-picks : goal.returns-clause-picks
returns-clause-picks g c = c.save_value.ensures.saves.picks ∙ c.in_ok-prepare_finalization.ensures.ok.1.picks
