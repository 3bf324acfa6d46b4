-- What is left is run as what there was.
use Rattle.std.proofs.Common.{◌≡◌, map, drop}
use Rattle.ctl_layout.specs.Values.{actual_code, actuals_run, operator_of, operators_run, value_code, values_run}
use Rattle.ctl_layout.proofs.runs.+values.Given as goal

abbrev pub invariant-operands-loop-one : goal.invariant-operands-loop-one
invariant-operands-loop-one l = operators_run l.table.records.now (map operator_of (drop l.one-index l.operands)) ≡ operators_run l.table.records.now (map operator_of l.operands)

abbrev pub invariant-values-loop-one : goal.invariant-values-loop-one
invariant-values-loop-one l = values_run l.table.records.now (map value_code (drop l.one-index l.operands)) ≡ values_run l.table.records.now (map value_code l.operands)

abbrev pub invariant-are_actuals-loop-one : goal.invariant-are_actuals-loop-one
invariant-are_actuals-loop-one l = actuals_run (map actual_code (drop l.one-index l.actuals)) l.table.records.now ≡ actuals_run (map actual_code l.actuals) l.table.records.now
