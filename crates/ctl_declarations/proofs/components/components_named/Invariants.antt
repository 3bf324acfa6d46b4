use Rattle.std.proofs.Common.{◌≡◌, drop, option_map, Some, []}
use Rattle.ctl_declarations.specs.Types as spec
use Rattle.ctl_typing.specs.Judgement.{each}
use Rattle.ctl_typing.specs.Typing.{sense}
use Rattle.ctl_declarations.proofs.components.components_named.Given as goal

-- those that are left, behind those so far, are judged as all are
abbrev pub invariant-loop-name : goal.invariant-loop-name
invariant-loop-name l =
    each (spec.component l.within l.mark (option_map sense l.value)) l.done (drop l.name-index l.names) l.draft
    ≡ each (spec.component l.within l.mark (option_map sense l.value)) (Some []) l.names l.fn.draft
