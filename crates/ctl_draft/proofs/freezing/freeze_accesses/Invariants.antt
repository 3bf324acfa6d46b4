use Rattle.std.proofs.Common.{◌≡◌, length}
use Rattle.ctl_draft.specs.Freezing as spec
use Rattle.ctl_draft.proofs.freezing.freeze_accesses.Given as goal

-- what is left to change, after what was changed, is all
abbrev pub invariant-loop-number : goal.invariant-loop-number
invariant-loop-number l = record {
  whole : length l.accesses ≡ length l.fn.accesses;
  same : spec.changed_each spec.frozen_access l.number l.accesses ≡ spec.changed_each spec.frozen_access l.first l.fn.accesses;
}
