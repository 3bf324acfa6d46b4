-- What is left is run as what there was.
use Rattle.std.proofs.Common.{◌≡◌, map, drop}
use Rattle.ctl_layout.specs.Around.{among}
use Rattle.ctl_layout.specs.Layout.{all, arm_code, arms_run, handler_code, handlers_run, statement_code}
use Rattle.ctl_layout.proofs.runs.+statements.Given as goal

abbrev pub invariant-statements-loop-one : goal.invariant-statements-loop-one
invariant-statements-loop-one l = (all (map statement_code (drop l.one-index l.statements))).runs (among l.table.records.now l.masters) ≡ (all (map statement_code l.statements)).runs (among l.table.records.now l.masters)

abbrev pub invariant-conditional-loop-one : goal.invariant-conditional-loop-one
invariant-conditional-loop-one l = arms_run (map arm_code (drop l.one-index l.arms)) (among l.table.records.now l.masters) ≡ arms_run (map arm_code l.arms) (among l.table.records.now l.masters)

abbrev pub invariant-handlers-loop-one : goal.invariant-handlers-loop-one
invariant-handlers-loop-one l = handlers_run (map handler_code (drop l.one-index l.handlers)) (among l.table.records.now l.masters) ≡ handlers_run (map handler_code l.handlers) (among l.table.records.now l.masters)
