-- What is left is run as what there was.
use Rattle.std.proofs.Common.{◌≡◌, drop}
use Rattle.ctl_layout.specs.Run.{are_defaults_run}
use Rattle.ctl_layout.proofs.runs.are_defaults_run.Given as goal

abbrev pub invariant-loop-entry : goal.invariant-loop-entry
invariant-loop-entry l = are_defaults_run l.table.records.now (drop l.entry-index l.records) ≡ are_defaults_run l.table.records.now l.records
