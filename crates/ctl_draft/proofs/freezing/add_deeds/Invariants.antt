use Rattle.std.proofs.Common.{◌≡◌, ◌++◌, drop}
use Rattle.ctl_draft.proofs.freezing.add_deeds.Given as goal

-- what was added, and what is left to add, are all
abbrev pub invariant-loop-deed : goal.invariant-loop-deed
invariant-loop-deed l = l.todo ++ drop l.deed-index l.deeds ≡ l.fn.todo ++ l.deeds
