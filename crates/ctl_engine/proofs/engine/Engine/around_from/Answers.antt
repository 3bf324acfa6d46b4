use Rattle.std.proofs.Common.{◌∙◌, ◌-◌, arith}
use Rattle.ctl_frames.proofs.Links.{stops_here, goes_further, got}
use Rattle.ctl_engine.proofs.engine.Engine.around_from.Goals as goal

pub returns-then-master-level-clause-display : goal.returns-then-master-level-clause-display
returns-then-master-level-clause-display g c =
    let some = c.loop-count-test.true in
    let within = c.loop-count.invariant.0 in
    let found = got c.args.self.now.masters.items (c.loop-count.count - 1) c.index-master.result.now (omega (arith, some, within)) c.index-master.ensures in
    stops_here c.args.level c.loop-count.count c.args.self.now.masters.items g.hs c.index-master.result.now c.requires.0 (omega (arith, some)) found (omega (arith, c.if-master-level.true)) ∙ c.loop-count.invariant.1

pub loop-count-smaller : goal.loop-count-smaller
loop-count-smaller g c =
    let some = c.loop-count-test.true in
    let within = c.loop-count.invariant.0 in
    let found = got c.args.self.now.masters.items (c.loop-count.count - 1) c.index-master.result.now (omega (arith, some, within)) c.index-master.ensures in
    (goes_further c.args.level c.loop-count.count c.args.self.now.masters.items g.hs c.index-master.result.now c.requires.0 (omega (arith, some)) within found (omega (arith, c.if-master-level.false))).0

pub loop-count-preserved : goal.loop-count-preserved
loop-count-preserved g c =
    let some = c.loop-count-test.true in
    let within = c.loop-count.invariant.0 in
    let found = got c.args.self.now.masters.items (c.loop-count.count - 1) c.index-master.result.now (omega (arith, some, within)) c.index-master.ensures in
    let f = goes_further c.args.level c.loop-count.count c.args.self.now.masters.items g.hs c.index-master.result.now c.requires.0 (omega (arith, some)) within found (omega (arith, c.if-master-level.false)) in
    (f.1, f.2 ∙ c.loop-count.invariant.1)
