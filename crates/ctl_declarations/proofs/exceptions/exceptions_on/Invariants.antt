use Rattle.std.proofs.Common.{◌≡◌, drop, []}
use Rattle.ctl_declarations.specs.Declarations as spec
use Rattle.ctl_declarations.proofs.exceptions.exceptions_on.Given as goal

-- those that are left, behind those so far, are declared as all are
abbrev pub invariant-loop-name : goal.invariant-loop-name
invariant-loop-name l = spec.exceptions_on l.items (drop l.name-index l.names) l.draft ≡ spec.exceptions_on [] l.names l.fn.draft
