use Rattle.std.proofs.Common.{◌≡◌, drop}
use Rattle.ctl_draft.specs.Freezing as spec
use Rattle.ctl_draft.proofs.freezing.are_new.Given as goal

-- what is new among those that are left is new among all
abbrev pub invariant-loop-deed : goal.invariant-loop-deed
invariant-loop-deed l = spec.are_new l.states (drop l.deed-index l.deeds) ≡ spec.are_new l.states l.deeds
