-- What is left is run as what there was.
use Rattle.std.proofs.Common.{◌≡◌, drop}
use Rattle.ctl_layout.specs.Layout.{bodies, outside}
use Rattle.ctl_layout.proofs.runs.bodies.Given as goal

abbrev pub invariant-loop-subprogram : goal.invariant-loop-subprogram
invariant-loop-subprogram l = (bodies l.subprogram-index (drop l.subprogram-index l.subprograms)).runs (outside l.table.records.now) ≡ (bodies 0 l.subprograms).runs (outside l.table.records.now)
