use Rattle.std.proofs.Common.{◌≡◌, drop}
use Rattle.ctl_declarations.specs.Declarations as spec
use Rattle.ctl_declarations.proofs.headings.formal_types.Given as goal

-- the formals that are left, behind those so far, are all
abbrev pub invariant-loop-one : goal.invariant-loop-one
invariant-loop-one l = spec.formals_on l.tables l.place l.all (drop l.one-index l.formals) l.notes ≡ spec.formal_types l.place l.formals l.tables l.fn.notes
