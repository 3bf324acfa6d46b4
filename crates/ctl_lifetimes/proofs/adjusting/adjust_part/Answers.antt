use Rattle.std.proofs.Common.{◌<◌, arith, length, refl}
use Rattle.ctl_code.specs.Table.{controlled_of}
use Rattle.ctl_frames.specs.declared.frame.Frame.TheVariants.{Adjusting}
use Rattle.ctl_lifetimes.proofs.Adjusted.{no_components, some_components}
use Rattle.ctl_lifetimes.proofs.Finishing.{pushed}
use Rattle.ctl_frames.proofs.StillLeft.{count_left}
use Rattle.ctl_lifetimes.proofs.adjusting.adjust_part.Goals as goal

pub returns-then-left : goal.returns-then-left
returns-then-left g c =
    let x = c.args.adjustment in
    no_components c.args.code.now c.args.engine.now c.adjust_own.new.engine g.t x.creation x.record_type c.controlled_left-left.result x.failed c.controlled_left-left.ensures c.if-left.true c.adjust_own.ensures

pub returns : goal.returns
returns g c =
    let old = c.args.engine.now in
    let t = g.t in
    let x = c.args.adjustment in
    let left = c.controlled_left-left in
    let all = controlled_of c.args.code.now x.record_type in
    let many = count_left all all left.result left.ensures in
    let rising = left.ensures.rising in
    let differs = c.if-left.false in
    let some : 0 < length all = omega (arith, many, rising, differs) in
    let frame = Adjusting x.creation x.record_type left.result in
    let are = pushed old c.push_reserved.new.self.items c.push_reserved-2.new.self.items frame c.args.doubles.spot t.spot c.push_reserved.ensures.items c.push_reserved-2.ensures.items c.requires.1.1.1.1.0.spot in
    some_components c.args.code.now old _ t x.creation x.record_type left.result x.failed c.handed.result c.requires.1.0 c.requires.1.1.1.1.1.0 some left.ensures are refl c.handed.ensures refl refl
