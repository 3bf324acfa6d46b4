use Rattle.std.proofs.Common.{◌≡◌, arith, false, length, refl}
use Rattle.ctl_code.specs.Table.{controlled_of}
use Rattle.ctl_engine.specs.declared.engine.Engine.{Engine}
use Rattle.ctl_frames.specs.declared.frame.Ended.TheVariants.{Complete}
use Rattle.ctl_frames.specs.declared.frame.Mode.TheVariants.{Giving}
use Rattle.ctl_lifetimes.proofs.AfterFinalize.{after_fine, finished_in, own_drops}
use Rattle.ctl_lifetimes.proofs.Finishing.{no_components}
use Rattle.ctl_machine.proofs.finalizing.resume_finalizing_own.Goals as goal

pub returns : goal.returns
returns g c =
    let code = c.args.code.now in
    let old = c.args.engine.now in
    let cause = c.args.cause in
    let top = c.requires.1 in
    let d = c.drop_frame in
    let mid = d.new.self in
    let drops = own_drops code old mid g.s cause c.args.record top.0 d.result c.requires.0 top.1 d.ensures in
    let new : Engine = record mid { mode = Giving Complete } in
    let count = c.count_controlled.ensures.count in
    let few = c.if-count_controlled-gt0.false in
    let none : length (controlled_of code c.args.record) ≡ 0 = omega (arith, count, few) in
    let made = no_components code mid new (finished_in g.s.control g.s.world) cause (controlled_of code c.args.record) false Complete drops.0 none refl refl refl refl refl in
    after_fine code old mid new c.args.ended cause c.args.record g.s top.0 d.result c.requires.0 top.1 c.in_default.not-Raised d.ensures made
