use Rattle.std.proofs.Common.{◌≡◌, drop}
use Rattle.ctl_resolve.specs.Declarations as spec
use Rattle.ctl_resolve.proofs.declarations.hide_each.Given as goal

-- hiding those that are left, from here, hides all
abbrev pub invariant-loop-id : goal.invariant-loop-id
invariant-loop-id l = spec.hide_each (drop l.id-index l.ids) l.view ≡ spec.hide_each l.ids l.fn.view
