use Rattle.std.proofs.Common.{◌≡◌, drop}
use Rattle.ctl_declarations.specs.Declarations as spec
use Rattle.ctl_declarations.proofs.formals.enter_formals.Given as goal

-- the formals that are left, behind those that are in view, are all
abbrev pub invariant-loop-formal : goal.invariant-loop-formal
invariant-loop-formal l = spec.enter_formals l.around l.place (drop l.formal-index l.formals) l.draft ≡ spec.enter_formals l.fn.around l.fn.place l.formals l.fn.draft
