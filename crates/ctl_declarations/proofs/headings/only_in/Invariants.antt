use Rattle.std.proofs.Common.{◌≡◌, drop}
use Rattle.ctl_declarations.specs.Declarations as spec
use Rattle.ctl_declarations.proofs.headings.only_in.Given as goal

-- the formals that are left, after those that were noted, are all
abbrev pub invariant-loop-one : goal.invariant-loop-one
invariant-loop-one l = spec.only_in (drop l.one-index l.formals) l.draft ≡ spec.only_in l.formals l.fn.draft
