use Rattle.std.proofs.Common.{◌∙◌}
use Rattle.ctl_resolve.proofs.Each.{copied}
use Rattle.ctl_resolve.proofs.context.paths.Goals as goal

pub loop-one-preserved : goal.loop-one-preserved
loop-one-preserved c = copied c.loop-one.copies _ c.args.all.now c.loop-one.one-index c.one-item.result c.path.result c.loop-one-test.true c.one-item.is c.path.ensures c.in_ok-copies-2.ensures ∙ c.loop-one.invariant
