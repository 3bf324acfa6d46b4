use Rattle.std.proofs.Common.{◌≡◌, ◌++◌, drop}
use Rattle.ctl_draft.specs.Freezing as spec
use Rattle.ctl_draft.proofs.freezing.add_components_initialized.Given as goal

-- what was added, and what is left to add, are all
abbrev pub invariant-loop-component : goal.invariant-loop-component
invariant-loop-component l = l.todo ++ spec.components_initialized (drop l.component-index l.own) ≡ l.fn.todo ++ spec.components_initialized l.own
