use Rattle.std.proofs.Common.{◌∙◌, ap, arith, refl, sym}
use Rattle.ctl_tree.specs.declared.event.Event.TheVariants.{Finalize}
use Rattle.ctl_tree.specs.declared.event.Part.{Part}
use Rattle.ctl_frames.specs.declared.frame.Frame.TheVariants.{FinalizingOwn}
use Rattle.ctl_engine.specs.Assigning.{Called}
use Rattle.ctl_lifetimes.proofs.Finishing.{caller_over, calls_own, own_makes, pushed}
use Rattle.ctl_steps.proofs.finalizing.call_finalize.Goals as goal

pub call_among-requires : goal.call_among-requires
call_among-requires g c =
    let code = c.args.code.now in
    let old = c.args.engine.now in
    let x = c.args.finalization in
    let t = g.t.0 in
    let room = c.requires.1.1.1.0 in
    let doubles = c.requires.1.1.1.1.0 in
    let calls = c.requires.1.1.1.1.1.1 in
    let frame = FinalizingOwn x.cause x.record_type in
    let are = pushed old c.push_reserved.new.self.items c.push_reserved-2.new.self.items frame c.args.doubles.spot t.spot c.push_reserved.ensures.items c.push_reserved-2.ensures.items doubles.spot in
    let len = c.push_reserved.ensures.len in
    let capacity = c.push_reserved.ensures.capacity in
    let more = room.control in (
      c.requires.0,
      (
        (
          c.requires.1.1.1.1.1.0,
          calls_own code old _ c.args.entry.now x.cause x.record_type c.requires.1.1.1.1.1.0 x.base t g.t.1 c.requires.1.0 c.requires.1.1.0 calls are,
          caller_over old.control.items c.push_reserved.new.self.items frame old.masters.items c.requires.1.1.1.1.1.0 c.args.caller c.push_reserved.ensures.items refl c.requires.1.1.1.1.1.2,
        ),
        (
          doubles.formal ∙ sym (ap (λ (y : Called). y.spot) calls.is),
          record { masters = room.call.masters; control = omega (arith, len, capacity, more); events = room.call.events; formals = room.call.formals; cells = room.call.cells; number = room.call.number },
        ),
      ),
    )

pub returns : goal.returns
returns g c =
    let x = c.args.finalization in
    own_makes c.args.code.now c.args.engine.now _ c.call_among.new.self c.args.entry.now x.cause x.record_type c.requires.1.1.1.1.1.0 g.t.0 g.t.1 (Finalize c.args.doubles.part x.cause) c.requires.1.0 c.requires.1.1.1.1.1.1
    (ap (λ (p : Part). Finalize p x.cause) c.requires.1.1.1.1.0.part) refl refl c.call_among.ensures
