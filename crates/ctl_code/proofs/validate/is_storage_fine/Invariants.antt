use Rattle.std.proofs.Common.{◌≡◌, ℕ, ◌<◌, Some}
use Rattle.std.specs.Prelude.{slice_get}
use Rattle.ctl_code.specs.declared.code.Operations.{Operations}
use Rattle.ctl_code.specs.Valid.{TakesStorage}
use Rattle.ctl_code.proofs.validate.is_storage_fine.Given as goal

abbrev pub invariant-loop-operations : goal.invariant-loop-operations
invariant-loop-operations l = (t : ℕ) (o : Operations) → t < l.operations-index → slice_get l.code.records.items t ≡ Some o → TakesStorage l.code o.allocate × TakesStorage l.code o.deallocate
