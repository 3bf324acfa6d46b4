use Rattle.std.proofs.Common.{◌≡◌, drop, Some, []}
use Rattle.ctl_draft.specs.Marks as spec
use Rattle.ctl_draft.proofs.associations.named.Given as goal

-- those that are left, behind those so far, give what all give
abbrev pub invariant-loop-association : goal.invariant-loop-association
invariant-loop-association l = spec.named_on l.what (Some l.numbers) (drop l.association-index l.associations) ≡ spec.named_on l.what (Some []) l.associations
