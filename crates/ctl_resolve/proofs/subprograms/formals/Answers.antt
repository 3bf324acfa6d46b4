use Rattle.std.proofs.Common.{◌∙◌}
use Rattle.ctl_resolve.specs.Declarations.{formal}
use Rattle.ctl_resolve.proofs.Each.{turned}
use Rattle.ctl_resolve.proofs.subprograms.formals.Goals as goal

pub loop-one-preserved : goal.loop-one-preserved
loop-one-preserved c = turned formal c.loop-one.resolved _ c.args.all.now c.loop-one.one-index c.one-item.result c.formal.result c.loop-one.view c.formal.new.view c.loop-one-test.true c.one-item.is c.formal.ensures c.in_ok-resolved-2.ensures ∙ c.loop-one.invariant
