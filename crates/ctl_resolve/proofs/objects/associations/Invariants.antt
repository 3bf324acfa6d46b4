use Rattle.std.proofs.Common.{◌≡◌, [], drop}
use Rattle.ctl_resolve.specs.Naming.{each}
use Rattle.ctl_resolve.specs.Declarations as spec
use Rattle.ctl_resolve.proofs.objects.associations.Given as goal

-- resolving those that are left, from here, resolves all
abbrev pub invariant-loop-one : goal.invariant-loop-one
invariant-loop-one l = each spec.association l.resolved (drop l.one-index l.all) l.view ≡ each spec.association [] l.all l.fn.view
