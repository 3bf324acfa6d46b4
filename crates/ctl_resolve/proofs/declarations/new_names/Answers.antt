use Rattle.std.proofs.Common.{◌∙◌}
use Rattle.ctl_resolve.specs.declared.view.Stage.TheVariants.{Complete}
use Rattle.ctl_resolve.specs.Declarations.{new_name}
use Rattle.ctl_resolve.proofs.Each.{turned}
use Rattle.ctl_resolve.proofs.declarations.new_names.Goals as goal

pub loop-id-preserved : goal.loop-id-preserved
loop-id-preserved c = turned (new_name Complete) c.loop-id.definitions _ c.args.ids.now c.loop-id.id-index c.id-item.result c.new_name.result c.loop-id.view c.new_name.new.view c.loop-id-test.true c.id-item.is c.new_name.ensures c.in_ok-definitions-2.ensures ∙ c.loop-id.invariant
