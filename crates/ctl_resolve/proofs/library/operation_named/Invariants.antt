use Rattle.std.proofs.Common.{◌≡◌, drop}
use Rattle.std.specs.List.{find}
use Rattle.ctl_resolve.specs.Library.{is_operation, operations}
use Rattle.ctl_resolve.proofs.library.operation_named.Given as goal

-- what is found among those that are left is found among all
abbrev pub invariant-loop-operation : goal.invariant-loop-operation
invariant-loop-operation l = find (is_operation l.name) (drop l.operation-index l.operation-items) ≡ find (is_operation l.name) (operations)
