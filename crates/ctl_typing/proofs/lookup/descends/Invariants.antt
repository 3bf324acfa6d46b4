use Rattle.std.proofs.Common.{◌≡◌, ◌-◌, ◌≤◌}
use Rattle.ctl_typing.specs.Lookup as spec
use Rattle.ctl_typing.proofs.lookup.descends.Given as goal

-- the types that are left tell what all tell
abbrev pub invariant-loop : goal.invariant-loop
invariant-loop l = record {
  within : l.counter ≤ l.end;
  same : spec.descends_within (l.end - l.counter) l.records l.ancestor l.at ≡ spec.descends_within l.end l.records l.ancestor l.number;
}
