use Rattle.std.proofs.Common.{◌≡◌, drop}
use Rattle.ctl_draft.specs.Marks as spec
use Rattle.ctl_draft.proofs.associations.all_positional.Given as goal

-- what holds of those that are left holds of all
abbrev pub invariant-loop-association : goal.invariant-loop-association
invariant-loop-association l = spec.all_positional (drop l.association-index l.associations) ≡ spec.all_positional l.associations
