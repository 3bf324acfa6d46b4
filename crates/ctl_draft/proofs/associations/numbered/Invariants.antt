use Rattle.std.proofs.Common.{◌≡◌, ◌-◌, ◌≤◌, []}
use Rattle.ctl_draft.specs.Marks as spec
use Rattle.ctl_draft.proofs.associations.numbered.Given as goal

-- those that are left, behind those so far, are all
abbrev pub invariant-loop-number : goal.invariant-loop-number
invariant-loop-number l = record {
  within : l.number ≤ l.fn.count;
  same : spec.numbers_on l.numbers (l.fn.count - l.number) l.number ≡ spec.numbers_on [] l.fn.count 0;
}
