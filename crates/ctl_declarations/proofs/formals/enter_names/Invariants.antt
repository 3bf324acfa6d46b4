use Rattle.std.proofs.Common.{◌≡◌, drop}
use Rattle.ctl_declarations.specs.Declarations as spec
use Rattle.ctl_declarations.proofs.formals.enter_names.Given as goal

-- the names that are left, behind those that are in view, are all
abbrev pub invariant-loop : goal.invariant-loop
invariant-loop l = spec.enter_names l.around l.mode l.ty (drop l.index l.names) l.draft ≡ spec.enter_names l.around l.mode l.ty l.names l.fn.draft
