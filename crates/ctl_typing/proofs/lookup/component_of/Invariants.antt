use Rattle.std.proofs.Common.{◌≡◌, ◌-◌, ◌≤◌}
use Rattle.ctl_typing.specs.Lookup as spec
use Rattle.ctl_typing.proofs.lookup.component_of.Given as goal

-- the types that are left give what all give
abbrev pub invariant-loop : goal.invariant-loop
invariant-loop l = record {
  within : l.counter ≤ l.end;
  same : spec.component_within (l.end - l.counter) l.records l.name l.at ≡ spec.component_within l.end l.records l.name l.number;
}
