-- What is left is run as what there was.
use Rattle.std.proofs.Common.{◌≡◌, drop}
use Rattle.ctl_layout.specs.Run.{are_own_run}
use Rattle.ctl_layout.proofs.runs.are_own_run.Given as goal

abbrev pub invariant-loop-component : goal.invariant-loop-component
invariant-loop-component l = are_own_run l.table.records.now (drop l.component-index l.components) ≡ are_own_run l.table.records.now l.components
