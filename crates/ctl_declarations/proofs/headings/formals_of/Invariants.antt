use Rattle.std.proofs.Common.{◌≡◌, ◌++◌, map, drop}
use Rattle.ctl_draft.specs.Operations as operation_spec
use Rattle.ctl_declarations.proofs.headings.formals_of.Given as goal

-- those of the names that are left, behind those so far, are all
abbrev pub invariant-loop : goal.invariant-loop
invariant-loop l = l.formals ++ map (λ n. operation_spec.formal l.mode l.ty) (drop l.index l.names) ≡ map (λ n. operation_spec.formal l.mode l.ty) l.names
