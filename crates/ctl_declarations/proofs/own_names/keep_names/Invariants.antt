use Rattle.std.proofs.Common.{◌≡◌, drop}
use Rattle.ctl_declarations.specs.Declarations as spec
use Rattle.ctl_declarations.proofs.own_names.keep_names.Given as goal

-- those that are left, behind those so far, are judged as all are
abbrev pub invariant-loop-name : goal.invariant-loop-name
invariant-loop-name l = spec.names_kept (drop l.name-index l.names) l.draft ≡ spec.names_kept l.names l.fn.draft
