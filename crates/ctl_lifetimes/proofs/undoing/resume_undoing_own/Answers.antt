use Rattle.ctl_lifetimes.proofs.AfterUndoing.{own_drops, own_mark, own_resumes}
use Rattle.ctl_lifetimes.proofs.undoing.resume_undoing_own.Goals as goal

pub undo_components-requires : goal.undo_components-requires
undo_components-requires g c =
    let d = c.drop_frame-spot in
    let top = c.requires.1.1 in
    let x = own_drops c.args.code.now c.args.engine.now d.new.self g.s c.args.record c.args.first top.0 d.result c.requires.1.0 top.1 d.ensures in
    (x.0, (own_mark c.args.code.now c.args.engine.now g.s c.args.record c.args.first top.0 c.requires.1.0 top.1, (d.ensures.room, x.1)))

pub returns : goal.returns
returns g c = λ ended.
    let d = c.drop_frame-spot in
    let top = c.requires.1.1 in
    own_resumes c.args.code.now c.args.engine.now d.new.self c.undo_components.new.engine ended c.args.record c.args.first g.s top.0 d.result c.requires.1.0 top.1 d.ensures c.undo_components.ensures
