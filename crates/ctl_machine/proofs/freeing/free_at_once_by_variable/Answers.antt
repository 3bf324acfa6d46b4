use Rattle.std.proofs.Common.{◌+◌, refl}
use Rattle.ctl_frames.specs.declared.frame.Ended.TheVariants as EndedOf
use Rattle.ctl_engine.proofs.Following.{makes_later}
use Rattle.ctl_places.proofs.Freed.{ending_at}
use Rattle.ctl_allocations.proofs.FreedPart.{variable_lets_go}
use Rattle.ctl_machine.proofs.freeing.free_at_once_by_variable.Goals as goal

pub null_variable-requires : goal.null_variable-requires
null_variable-requires g c =
    let code = c.args.code.now in
    let old = c.args.engine.now in
    let new = c.prepare_return.new.engine in
    let x = c.args.release in
    let b = c.requires.1.0.1 in
    let goes = c.in_ok-prepare_return.ensures.ok in (
      c.requires.0,
      (
        variable_lets_go code old new c.requires.1.0.0 c.args.out c.args.slot x.place x.object g.s goes.0 b c.requires.1.1.0 goes.1.kept,
        (refl, ending_at code new EndedOf.Complete x.storage (x.place + 1) b.stack c.requires.0 b.fine.2 c.in_ok-prepare_return.ensures.room),
      ),
    )

pub returns-clause-ok : goal.returns-clause-ok
returns-clause-ok g c =
    let goes = c.in_ok-prepare_return.ensures.ok.1 in
    makes_later c.args.code.now c.args.engine.now c.prepare_return.new.engine c.null_variable.new.engine _ goes.events goes.picks c.null_variable.ensures
