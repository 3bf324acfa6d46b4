use Rattle.std.proofs.Common.{◌≡◌, List, ap, refl, reverse}
use Rattle.ctl_engine.specs.declared.engine.Engine.{Engine}
use Rattle.ctl_frames.specs.declared.frame.Frame.{Frame}
use Rattle.ctl_frames.specs.declared.frame.Frame.TheVariants as FrameOf
use Rattle.ctl_engine.specs.Shows.{kept}
use Rattle.ctl_lifetimes.proofs.AfterInitialize.{rest_is}
use Rattle.ctl_engine.proofs.Allocated.{allocating, creation_goes_on, member_behind, without_frame}
use Rattle.ctl_engine.proofs.Stages.{Creates}
use Rattle.ctl_allocations.proofs.allocating.resume_allocating.Goals as goal

pub end_allocation-requires : goal.end_allocation-requires
end_allocation-requires g c =
    let code = c.args.code.now in
    let old = c.args.engine.now in
    let b = c.requires.1.0 in
    let top = c.requires.1.1 in
    let u = allocating code old c.args.object c.args.place top.0 g.s b top.1 in
    let frame = FrameOf.Allocating c.args.object c.args.place in
    let rest : reverse c.take_last.new.self.items ≡ top.0 = rest_is old.control.items c.take_last.new.self.items c.take_last.result frame top.0 c.take_last.ensures.items top.1 in
    let mid : Engine = record old { control = c.take_last.new.self } in
    (c.requires.0, member_behind Creates code old mid c.args.object u.0 c.args.place top.0 g.s b top.1 u.1 (ap (λ (l : List Frame). without_frame Creates l (kept old)) rest))

pub returns : goal.returns
returns g c =
    let code = c.args.code.now in
    let old = c.args.engine.now in
    let top = c.requires.1.1 in
    let u = allocating code old c.args.object c.args.place top.0 g.s c.requires.1.0 top.1 in
    let mid : Engine = record old { control = c.take_last.new.self } in
    creation_goes_on code old mid c.end_allocation.new.engine c.args.ended c.args.object u.0 c.args.place top.0 g.s u.1 refl refl c.end_allocation.ensures
