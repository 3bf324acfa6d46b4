-- What is left is run as what there was.
use Rattle.std.proofs.Common.{◌≡◌, drop}
use Rattle.ctl_layout.specs.Texts.{pieces_are_run}
use Rattle.ctl_layout.proofs.runs.pieces.Given as goal

abbrev pub invariant-loop-one : goal.invariant-loop-one
invariant-loop-one l = pieces_are_run l.table.records.now (drop l.one-index l.pieces) ≡ pieces_are_run l.table.records.now l.pieces
