use Rattle.std.proofs.Common.{◌≡◌, drop}
use Rattle.ctl_draft.specs.Marks as spec
use Rattle.ctl_draft.proofs.associations.is_among.Given as goal

-- what is found among those that are left is found among all
abbrev pub invariant-loop-other : goal.invariant-loop-other
invariant-loop-other l = spec.is_among l.number (drop l.other-index l.numbers) ≡ spec.is_among l.number l.numbers
