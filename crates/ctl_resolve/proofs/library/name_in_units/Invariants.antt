use Rattle.std.proofs.Common.{◌≡◌, drop}
use Rattle.ctl_resolve.specs.Library.{name_in_units}
use Rattle.ctl_resolve.proofs.library.name_in_units.Given as goal

-- what those that are left declare is what all declare
abbrev pub invariant-loop-unit : goal.invariant-loop-unit
invariant-loop-unit l = name_in_units (drop l.unit-index l.units) l.name ≡ name_in_units l.units l.name
