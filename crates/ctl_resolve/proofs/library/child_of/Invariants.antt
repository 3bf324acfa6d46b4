use Rattle.std.proofs.Common.{◌≡◌, drop}
use Rattle.std.specs.List.{find}
use Rattle.ctl_resolve.specs.Library.{is_unit, children}
use Rattle.ctl_resolve.proofs.library.child_of.Given as goal

-- what is found among those that are left is found among all
abbrev pub invariant-loop-unit : goal.invariant-loop-unit
invariant-loop-unit l = find (is_unit l.name) (drop l.unit-index l.unit-items) ≡ find (is_unit l.name) (children l.fn.parent)
