use Rattle.std.proofs.Common.{arith, refl}
use Rattle.ctl_engine.specs.declared.engine.Engine.{Engine}
use Rattle.ctl_engine.proofs.Following.{makes_later}
use Rattle.ctl_places.proofs.Freed.{freeing_finishes, freeing_pushed}
use Rattle.ctl_machine.proofs.freeing.release.Goals as goal

pub finalize_whole-requires : goal.finalize_whole-requires
finalize_whole-requires g c =
    let code = c.args.code.now in
    let old = c.args.engine.now in
    let x = c.args.release in
    let t = g.t in
    let is = c.requires.1.1.1.0 in
    let mid : Engine = record old { control = c.push_reserved.new.self } in
    let are = freeing_pushed old c.push_reserved.new.self.items c.args.nulled x.object x.storage t.place x.place c.push_reserved.ensures.items c.requires.1.1.0 in
    let r = c.requires.1.1.1.1.1 in
    let room = r.1.0 in
    let frames = r.1.1.0 in
    let len = c.push_reserved.ensures.len in
    let capacity = c.push_reserved.ensures.capacity in (
      c.requires.0,
      (
        freeing_finishes code old mid c.args.nulled x.object x.storage t c.requires.1.0 is.may.0 is.stored are,
        (
          r.0,
          (
            record { masters = room.masters; control = omega (arith, len, capacity, frames); events = room.events; formals = room.formals; cells = room.cells; number = room.number },
            (omega (arith, len, capacity, frames), (r.1.1.1.0, (r.1.1.1.1, is.may.1))),
          ),
        ),
      ),
    )

pub returns : goal.returns
returns g c = makes_later c.args.code.now c.args.engine.now _ c.finalize_whole.new.engine _ refl refl c.finalize_whole.ensures
