use Rattle.std.proofs.Common.{◌≡◌, [], drop}
use Rattle.ctl_resolve.specs.declared.view.Usage.TheVariants.{Plain}
use Rattle.ctl_resolve.specs.Naming.{each}
use Rattle.ctl_resolve.specs.Expressions.{mark}
use Rattle.ctl_resolve.proofs.ends.marks.Given as goal

-- resolving those that are left, from here, resolves all
abbrev pub invariant-loop-one : goal.invariant-loop-one
invariant-loop-one l = each (mark Plain) l.resolved (drop l.one-index l.all) l.view ≡ each (mark Plain) [] l.all l.fn.view
