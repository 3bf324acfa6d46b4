use Rattle.std.proofs.Common.{◌≡◌, drop, Some, []}
use Rattle.ctl_declarations.specs.Types as spec
use Rattle.ctl_typing.specs.Judgement.{each}
use Rattle.ctl_declarations.proofs.components.component_rows.Given as goal

-- those that are left, behind those so far, are judged as all are
abbrev pub invariant-loop-one : goal.invariant-loop-one
invariant-loop-one l =
    each (spec.components_of l.within) l.done (drop l.one-index l.declared) l.draft
    ≡ each (spec.components_of l.within) (Some []) l.declared l.fn.draft
