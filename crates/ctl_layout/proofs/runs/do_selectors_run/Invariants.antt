-- What is left is run as what there was.
use Rattle.std.proofs.Common.{◌≡◌, drop}
use Rattle.ctl_layout.specs.Parts.{selectors_run}
use Rattle.ctl_layout.proofs.runs.do_selectors_run.Given as goal

abbrev pub invariant-loop-step : goal.invariant-loop-step
invariant-loop-step l = selectors_run l.table.records.now (drop l.step-index l.steps) ≡ selectors_run l.table.records.now l.steps
