use Rattle.std.proofs.Common.{rules, arith}
use Rattle.ctl_draft.specs.Freezing as spec
use Rattle.ctl_draft.proofs.Changes.{changed_next, changed_none, changed_length}
use Rattle.ctl_draft.proofs.freezing.freeze_records.Goals as goal

pub loop-number-preserved : goal.loop-number-preserved
loop-number-preserved c = search (rules, changed_length spec.frozen_record c.loop-number.number c.loop-number.records, changed_next spec.frozen_record c.loop-number.number c.loop-number.records)

pub returns : goal.returns
returns c = search (rules, changed_none spec.frozen_record c.loop-number.number c.loop-number.records (omega (arith, c.loop-number-test.false, c.loop-number.invariant.whole)))
