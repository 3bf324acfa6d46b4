use Rattle.std.proofs.Common.{◌≡◌, length}
use Rattle.ctl_draft.specs.Freezing as spec
use Rattle.ctl_draft.proofs.freezing.freeze_records.Given as goal

-- what is left to change, after what was changed, is all
abbrev pub invariant-loop-number : goal.invariant-loop-number
invariant-loop-number l = record {
  whole : length l.records ≡ length l.fn.records;
  same : spec.changed_each spec.frozen_record l.number l.records ≡ spec.changed_each spec.frozen_record l.first l.fn.records;
}
