use Rattle.std.proofs.Common.{◌≡◌, drop}
use Rattle.ctl_draft.specs.Freezing as spec
use Rattle.ctl_draft.proofs.order.note_early_each.Given as goal

-- what is left to judge, after what was noted, is all
abbrev pub invariant-loop-object : goal.invariant-loop-object
invariant-loop-object l = spec.early_notes l.around l.states (drop l.object-index l.waiting) l.notes ≡ spec.early_notes l.around l.states l.waiting l.fn.notes
