use Rattle.std.proofs.Common.{◌∙◌}
use Rattle.ctl_resolve.specs.Declarations.{component}
use Rattle.ctl_resolve.proofs.Each.{turned}
use Rattle.ctl_resolve.proofs.type_definitions.components.Goals as goal

pub loop-one-preserved : goal.loop-one-preserved
loop-one-preserved c = turned component c.loop-one.resolved _ c.args.all.now c.loop-one.one-index c.one-item.result c.component.result c.loop-one.view c.component.new.view c.loop-one-test.true c.one-item.is c.component.ensures c.in_ok-resolved-2.ensures ∙ c.loop-one.invariant
