use Rattle.std.proofs.Common.{◌≡◌, drop}
use Rattle.ctl_declarations.specs.Types as spec
use Rattle.ctl_declarations.proofs.records.any_controlled.Given as goal

-- one of those that are left is, if one of all is
abbrev pub invariant-loop-component : goal.invariant-loop-component
invariant-loop-component l = spec.any_controlled l.tables (drop l.component-index l.own) ≡ spec.any_controlled l.tables l.own
