use Rattle.std.proofs.Common.{◌≡◌, ◌-◌, length}
use Rattle.ctl_draft.specs.Freezing as spec
use Rattle.ctl_draft.proofs.order.all_counted.Given as goal

-- what is left to count, after what was counted, is all
abbrev pub invariant-loop-number : goal.invariant-loop-number
invariant-loop-number l = spec.counted_up l.records (length l.records - l.number) l.number l.states ≡ spec.counted_up l.records (length l.records - l.fn.around.first_record) l.fn.around.first_record l.fn.states
