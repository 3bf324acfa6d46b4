use Rattle.std.proofs.Common.{◌∙◌}
use Rattle.ctl_resolve.specs.declared.view.Usage.TheVariants.{Plain}
use Rattle.ctl_resolve.specs.Expressions.{mark}
use Rattle.ctl_resolve.proofs.Each.{turned}
use Rattle.ctl_resolve.proofs.ends.marks.Goals as goal

pub loop-one-preserved : goal.loop-one-preserved
loop-one-preserved c = turned (mark Plain) c.loop-one.resolved _ c.args.all.now c.loop-one.one-index c.one-item.result c.mark.result c.loop-one.view c.mark.new.view c.loop-one-test.true c.one-item.is c.mark.ensures c.in_ok-resolved-2.ensures ∙ c.loop-one.invariant
