use Rattle.std.proofs.Common.{◌∙◌}
use Rattle.ctl_resolve.specs.Declarations.{association}
use Rattle.ctl_resolve.proofs.Each.{turned}
use Rattle.ctl_resolve.proofs.objects.associations.Goals as goal

pub loop-one-preserved : goal.loop-one-preserved
loop-one-preserved c = turned association c.loop-one.resolved _ c.args.all.now c.loop-one.one-index c.one-item.result c.association.result c.loop-one.view c.association.new.view c.loop-one-test.true c.one-item.is c.association.ensures c.in_ok-resolved-2.ensures ∙ c.loop-one.invariant
