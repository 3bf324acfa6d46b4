-- What is copied, and what is still to be copied, make up the whole.
use Rattle.std.proofs.Common.{◌≡◌, ◌++◌, drop}
use Rattle.ctl_layout.specs.Layout.{operations_of}
use Rattle.ctl_gen.proofs.generate.records_of.Given as goal

abbrev pub invariant-loop-record : goal.invariant-loop-record
invariant-loop-record l = l.all.items ++ operations_of (drop l.record-index l.records) ≡ operations_of l.records
