use Rattle.std.proofs.Common.{◌≡◌, drop}
use Rattle.ctl_draft.specs.Freezing as spec
use Rattle.ctl_draft.proofs.order.called_by_components.Given as goal

-- those that are left, after what was found, give what all give
abbrev pub invariant-loop-component : goal.invariant-loop-component
invariant-loop-component l = spec.called_by_components l.records l.so_far (drop l.component-index l.own) ≡ spec.called_by_components l.records l.fn.last l.own
