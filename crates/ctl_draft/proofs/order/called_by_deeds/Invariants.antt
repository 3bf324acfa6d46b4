use Rattle.std.proofs.Common.{◌≡◌, drop}
use Rattle.ctl_draft.specs.Freezing as spec
use Rattle.ctl_draft.proofs.order.called_by_deeds.Given as goal

-- those that are left, after what was found, give what all give
abbrev pub invariant-loop-deed : goal.invariant-loop-deed
invariant-loop-deed l = spec.called_by_deeds l.states l.so_far (drop l.deed-index l.deeds) ≡ spec.called_by_deeds l.states l.fn.last l.deeds
