use Rattle.std.proofs.Common.{◌≡◌, drop}
use Rattle.ctl_resolve.specs.declared.view.Stage.TheVariants.{Complete}
use Rattle.ctl_resolve.specs.Naming.{each}
use Rattle.ctl_resolve.specs.Declarations as spec
use Rattle.ctl_resolve.proofs.declarations.new_names.Given as goal

-- declaring those that are left, from here, declares all
abbrev pub invariant-loop-id : goal.invariant-loop-id
invariant-loop-id l = each (spec.new_name Complete) l.definitions (drop l.id-index l.ids) l.view ≡ spec.new_names l.ids l.fn.view
