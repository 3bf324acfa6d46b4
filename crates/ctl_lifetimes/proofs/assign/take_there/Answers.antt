use Rattle.std.proofs.Common.{◌≡◌, ◌∷◌, ◌∙◌, [], List, Some, ap, arith, drop, reverse}
use Rattle.ctl_engine.specs.declared.engine.Engine.{Engine}
use Rattle.ctl_engine.specs.Assigning.{waiting_for}
use Rattle.ctl_engine.specs.Shows.{Kept, kept}
use Rattle.ctl_engine.proofs.Owned.{object_shown}
use Rattle.ctl_frames.specs.declared.frame.Frame.{Frame}
use Rattle.ctl_frames.specs.declared.frame.Frame.TheVariants.{Assigning}
use Rattle.ctl_frames.specs.declared.frame.Value.TheVariants.{Taken}
use Rattle.ctl_frames.proofs.Words.{many_of}
use Rattle.ctl_lifetimes.proofs.Assignments.{newest_value, taken_is, value_taken}
use Rattle.ctl_lifetimes.proofs.assign.take_there.Goals as goal

pub take_value-requires : goal.take_value-requires
take_value-requires g c =
    let old = c.args.engine.now in
    let a = c.requires.0 in
    let p = a.pending in
    let x = c.args.assignment in
    let t = g.t.0 in
    let many = many_of old.spots.items _ t.spot p.spots in
    let newest = newest_value c.args.code.now old.saved.items t.spot x.record_type g.t.1 t.point t.control p.holds.saved in
    let size = c.size_of-size.ensures in
    let within = newest.within in
    record { spots = omega (arith, many); saved = omega (arith, size, within) }

pub note_taken-requires : goal.note_taken-requires
note_taken-requires g c =
    let p = c.requires.0.pending in
    (p.frames, ap (λ v. reverse v.items) c.take_value.ensures.waiting ∙ p.top)

pub returns : goal.returns
returns g c =
    let code = c.args.code.now in
    let old = c.args.engine.now in
    let mid = c.take_value.new.engine in
    let x = c.args.assignment in
    let t = g.t.0 in
    let a = c.requires.0 in
    let frame = Assigning x.record_type Taken x.place in
    let taken = taken_is code old mid x c.size_of-size.result g.t.1 t a c.size_of-size.ensures c.take_value.ensures.takes in
    let control : reverse c.note_taken.new.control.items ≡ frame ∷ a.pending.frames =
    c.note_taken.ensures.items ∙ (ap (λ v. frame ∷ drop 1 (reverse v.items)) c.take_value.ensures.waiting ∙ ap (λ (l : List Frame). frame ∷ drop 1 l) a.pending.top) in
    let are = ap (λ (l : List Frame). record (kept mid) { control = l }) control ∙ ap (λ (z : Kept). record z { control = frame ∷ a.pending.frames }) taken in
    let new : Engine = record mid { control = c.note_taken.new.control } in
    let room = c.take_value.ensures.room code x.base c.requires.1 in
    let len = c.note_taken.ensures.len in
    let capacity = c.note_taken.ensures.capacity in
    let call = room.call.control in
    let more = room.control in
    let takes = c.take_value.ensures.takes in
    record {
      assigns = value_taken code old new x g.t.1 t a are;
      object = a.object;
      found = object_shown code (kept old) (waiting_for x.record_type (Some g.t.1) t) [] t.world t.spot.object a.pending.holds ∙ a.found;
      room = record {
        call = record { masters = room.call.masters; control = omega (arith, len, capacity, call); events = room.call.events; formals = room.call.formals; cells = room.call.cells; number = room.call.number };
        control = omega (arith, len, capacity, more);
        spots = room.spots;
      };
      events = takes.events;
      picks = takes.picks;
    }
