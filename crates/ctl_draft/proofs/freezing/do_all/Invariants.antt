use Rattle.std.proofs.Common.{◌≡◌, ◌-◌, ◌^◌, drop}
use Rattle.ctl_draft.specs.Freezing as spec
use Rattle.ctl_draft.proofs.freezing.do_all.Given as goal

-- what is left to do, after what was done, is all
abbrev pub invariant-loop-at : goal.invariant-loop-at
invariant-loop-at l = spec.done_in_turn l.records (2 ^ 64 - 1 - l.at) (drop l.at l.todo) l.states ≡ spec.all_done l.records l.deeds l.fn.states
