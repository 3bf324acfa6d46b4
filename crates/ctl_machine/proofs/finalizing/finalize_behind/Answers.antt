use Rattle.std.proofs.Common.{refl}
use Rattle.ctl_lifetimes.proofs.AfterFinalize.{after_assigning, after_fine, after_raised, own_drops}
use Rattle.ctl_machine.proofs.finalizing.finalize_behind.Goals as goal

pub finalize_components-requires : goal.finalize_components-requires
finalize_components-requires g c =
    let d = c.drop_frame-spot in
    let x = own_drops c.args.code.now c.args.engine.now d.new.self g.s c.args.cause c.args.record c.requires.1.0 d.result c.requires.0 c.requires.1.1 d.ensures in
    (x.0, (d.ensures.room, x.1))

pub finalize_components-requires-in_default : goal.finalize_components-requires-in_default
finalize_components-requires-in_default g c =
    let d = c.drop_frame-spot in
    let x = own_drops c.args.code.now c.args.engine.now d.new.self g.s c.args.cause c.args.record c.requires.1.0 d.result c.requires.0 c.requires.1.1 d.ensures in
    (x.0, (d.ensures.room, x.1))

pub returns-in-Assign : goal.returns-in-Assign
returns-in-Assign g c =
    let d = c.drop_frame-spot in
    after_assigning c.args.code.now c.args.engine.now d.new.self _ c.args.ended c.in-Raised.field-0 1 c.args.cause c.args.record g.s c.requires.1.0 d.result c.requires.0 c.requires.1.1 c.in-Raised.is c.in-Assign.is d.ensures refl refl refl refl refl

pub returns-in_default-cause : goal.returns-in_default-cause
returns-in_default-cause g c =
    let d = c.drop_frame-spot in
    after_raised c.args.code.now c.args.engine.now d.new.self c.finalize_components.new.engine c.args.ended c.in-Raised.field-0 c.args.cause c.args.record g.s c.requires.1.0 d.result c.requires.0 c.requires.1.1 c.in-Raised.is c.in_default-cause.not-Assign d.ensures c.finalize_components.ensures

pub returns-in_default : goal.returns-in_default
returns-in_default g c =
    let d = c.drop_frame-spot in
    after_fine c.args.code.now c.args.engine.now d.new.self c.finalize_components-in_default.new.engine c.args.ended c.args.cause c.args.record g.s c.requires.1.0 d.result c.requires.0 c.requires.1.1 c.in_default.not-Raised d.ensures c.finalize_components-in_default.ensures
