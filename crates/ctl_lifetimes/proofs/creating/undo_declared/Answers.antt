use Rattle.ctl_lifetimes.proofs.CopyUndone.{copied_there, copied_type, declared_copy}
use Rattle.ctl_lifetimes.proofs.creating.undo_declared.Goals as goal

pub newest_object-object-requires : goal.newest_object-object-requires
newest_object-object-requires g c = let top = c.requires.1.1.0 in copied_there c.args.code.now c.args.engine.now c.args.place c.args.first top.0 g.s c.requires.1.0 top.1

pub undo_copy-requires : goal.undo_copy-requires
undo_copy-requires g c =
    let top = c.requires.1.1.0 in (
      c.requires.0,
      (
        c.requires.1.0,
        (
          declared_copy c.args.code.now c.args.engine.now c.args.place c.args.first top.0 g.s c.newest_object-object.result c.in-Object.record c.requires.1.0 top.1 c.newest_object-object.ensures c.in-Object.is,
          c.requires.1.1.1,
        ),
      ),
    )

pub unreachable-requires : goal.unreachable-requires
unreachable-requires g c =
    let top = c.requires.1.1.0 in
    let type = copied_type c.args.code.now c.args.engine.now c.args.place c.args.first top.0 g.s c.newest_object-object.result c.requires.1.0 top.1 c.newest_object-object.ensures in
    c.in_default.not-Object type.0 type.1
