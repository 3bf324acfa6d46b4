use Rattle.std.proofs.Common.{◌≡◌, drop}
use Rattle.ctl_typing.specs.Lookup as spec
use Rattle.ctl_typing.proofs.lookup.component_among.Given as goal

-- what is found among those that are left is found among all
abbrev pub invariant-loop-component : goal.invariant-loop-component
invariant-loop-component l = spec.component_among l.name (drop l.component-index l.own) ≡ spec.component_among l.name l.own
