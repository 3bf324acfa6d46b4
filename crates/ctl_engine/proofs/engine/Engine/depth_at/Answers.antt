use Rattle.std.proofs.Common.{◌<◌, ◌-◌, arith}
use Rattle.ctl_frames.proofs.Links.{seen_there, got}
use Rattle.ctl_engine.proofs.engine.Engine.depth_at.Goals as goal

pub returns-clause-depth : goal.returns-clause-depth
returns-clause-depth g c =
    let some : 0 < c.args.count = omega (arith, c.if-count-eq0.false) in
    let within = c.requires.1 in
    (seen_there c.args.count c.args.self.now.masters.items g.hs c.index.result.now c.requires.0 some (got c.args.self.now.masters.items (c.args.count - 1) c.index.result.now (omega (arith, some, within)) c.index.ensures)).0

pub returns-clause-shallow : goal.returns-clause-shallow
returns-clause-shallow g c =
    let some : 0 < c.args.count = omega (arith, c.if-count-eq0.false) in
    let within = c.requires.1 in
    (seen_there c.args.count c.args.self.now.masters.items g.hs c.index.result.now c.requires.0 some (got c.args.self.now.masters.items (c.args.count - 1) c.index.result.now (omega (arith, some, within)) c.index.ensures)).1
